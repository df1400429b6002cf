-- Laws on plain values, for the proofs of this crate and of its callers, and its theorems.
pub mod BigEndian
pub mod Widths
pub mod Stores
pub mod Tests
pub mod Answers
pub mod Back
pub mod Forth
pub mod Trips
pub mod Held
pub mod Blind
pub mod Theorems
pub mod Tight
