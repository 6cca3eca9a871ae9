pub mod Rows
pub mod States
pub mod Views
pub mod Steps
