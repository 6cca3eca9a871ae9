pub mod Ratios
pub mod Capping
