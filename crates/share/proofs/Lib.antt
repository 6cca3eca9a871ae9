pub mod Ranging
pub mod Dealing
pub mod Turning
