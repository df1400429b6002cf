-- Laws on plain values for the proofs of this crate, and what its promises come to.
mod Stores
mod Spelling
mod Answering
mod Finding
mod Going
mod Whole
pub mod Printing
pub mod Theorems
pub mod Within
pub mod Tight
