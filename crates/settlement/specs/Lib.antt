pub mod Writes
pub mod Ordered
pub mod Groups
pub mod Shows
pub mod Settles
