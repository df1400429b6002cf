-- Laws on plain values for the proofs of this crate.
pub mod Taking
pub mod Known
pub mod Leading
