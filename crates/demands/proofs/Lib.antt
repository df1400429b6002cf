-- The proofs of the demands; their statements stand in specs/.
pub mod Demand1
pub mod Demand2
pub mod Blind
pub mod Steers
pub mod Handed
pub mod OfCode
pub mod Corollaries
pub mod Tight
