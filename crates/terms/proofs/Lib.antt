pub mod Pricing
pub mod Summing
pub mod Suffixes
