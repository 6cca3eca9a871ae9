pub mod Orientation
pub mod Stops
pub mod Caps
pub mod Sizes
pub mod Records
pub mod Auctions
