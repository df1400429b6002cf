-- Laws on plain values, for the proofs of this crate and of its callers, and its theorems.
pub mod Settling
pub mod Naming
pub mod Tight
