pub mod Keywords
pub mod Words
pub mod Lexed
pub mod Answers
pub mod Forms
pub mod Legs
pub mod Lines
