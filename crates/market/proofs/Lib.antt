pub mod Banding
pub mod Quoting
pub mod Besting
