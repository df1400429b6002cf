-- The theorems on the rules, for the proofs of the crates above.
pub mod Refusals
pub mod View
pub mod Unrefused
pub mod Payer
pub mod Kept
pub mod ByPlace
pub mod OneCall
pub mod InPlace
pub mod Rows
pub mod Cases
pub mod Beyond
