pub mod Gathering
pub mod Counting
pub mod Alike
pub mod Counted
