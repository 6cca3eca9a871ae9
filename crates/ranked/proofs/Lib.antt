pub mod Placement
pub mod Shifts
pub mod Drawing
