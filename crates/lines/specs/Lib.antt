pub mod Types
pub mod Rows
pub mod Hex
pub mod Answers
pub mod Feeding
pub mod Texts
