pub mod Faults
pub mod Meaning
pub mod Boards
pub mod Bands
pub mod Books
