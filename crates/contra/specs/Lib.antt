pub mod Turns
pub mod Named
pub mod Counting
pub mod Kinds
pub mod Gathered
pub mod Answers
pub mod Laws
