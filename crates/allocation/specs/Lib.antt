pub mod Deals
pub mod Parts
pub mod Levels
pub mod Fillings
pub mod Laws
pub mod Shown
pub mod Outcomes
