-- The types of this crate and those that it speaks of, and their cases, under one name.
pub use Rattle.book.specs.declared.Book.{Book}
pub use Rattle.book.specs.declared.Called.{Called}
pub use Rattle.book.specs.declared.lookups.Places.{Places}
pub use Rattle.book.specs.declared.loads.Storing.{Storing}
pub use Rattle.std.specs.Prelude.{Option, Some, None, Result, Ok, Err}
pub use Rattle.places.specs.declared.Verdict.TheVariants.{Passed, Failed}
pub use Rattle.figures.specs.declared.names.Tokens.{Tokens}
pub use Rattle.figures.specs.declared.names.Timestamp.{Timestamp}
pub use Rattle.figures.specs.declared.names.KeyId.{KeyId}
pub use Rattle.figures.specs.declared.names.RightName.{RightName}
pub use Rattle.figures.specs.declared.accounts.Account.{Account}
pub use Rattle.figures.specs.declared.accounts.Account.TheVariants.{Counted, Purse}
pub use Rattle.figures.specs.declared.rights.Right.{Right}
pub use Rattle.figures.specs.declared.keys.Key.{Key}
pub use Rattle.figures.specs.declared.loads.Load.{Load}
pub use Rattle.figures.specs.declared.loads.Message.{Message}
pub use Rattle.figures.specs.declared.loads.Settled.{Settled}
pub use Rattle.figures.specs.declared.replies.Refusal.{Refusal}
pub use Rattle.figures.specs.declared.replies.Shown.{Shown}
pub use Rattle.figures.specs.declared.replies.Reply.{Reply}
pub use Rattle.figures.specs.declared.replies.Reply.TheVariants.{Loaded, Deleted, Granted, Reported, OverHeld, OverNew, Refused}
