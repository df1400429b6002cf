-- The types of this crate and their cases, under one name.
pub use Rattle.std.specs.Prelude.{Option, Some, None}
pub use Rattle.places.specs.declared.Verdict.{Verdict}
pub use Rattle.places.specs.declared.Verdict.TheVariants.{Passed, Failed}
