pub mod Awards
pub mod Requests
pub mod Filling
pub mod Proration
pub mod Firsts
pub mod Writing
pub mod Prorating
pub mod Turns
