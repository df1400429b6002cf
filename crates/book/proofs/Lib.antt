pub mod Long
pub mod Chosen
pub mod Storing
pub mod Tight
pub mod Leaving
