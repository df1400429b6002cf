-- The types of this crate and those that it speaks of, and their cases, under one name.
pub use Rattle.lines.specs.declared.State.{State}
pub use Rattle.lines.specs.declared.rows.Row.{Row}
pub use Rattle.lines.specs.declared.Fed.{Fed}
pub use Rattle.book.specs.declared.Book.{Book}
pub use Rattle.figures.specs.declared.replies.Refusal.TheVariants.{Unreadable}
pub use Rattle.figures.specs.declared.replies.Reply.{Reply}
pub use Rattle.figures.specs.declared.replies.Reply.TheVariants.{Loaded, Deleted, Granted, Reported, OverHeld, OverNew, Refused}
