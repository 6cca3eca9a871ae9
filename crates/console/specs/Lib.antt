pub mod Texts
pub mod Headings
pub mod Notices
pub mod Turns
