pub mod Types
pub mod Pages
pub mod Choices
pub mod Stored
