pub mod Ranks
pub mod Fills
pub mod Contras
pub mod Orders
pub mod Draws
pub mod Fields
pub mod Comparisons
pub mod ContraLaws
