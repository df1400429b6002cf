-- The types that the demands speak of, and their cases, under one name.
pub use Rattle.std.specs.Prelude.{Option, Some, None}
pub use Rattle.figures.specs.declared.names.Tokens.{Tokens}
pub use Rattle.figures.specs.declared.names.TrafficKeys.{TrafficKeys}
pub use Rattle.figures.specs.declared.names.Timestamp.{Timestamp}
pub use Rattle.figures.specs.declared.names.KeyDomain.{KeyDomain}
pub use Rattle.figures.specs.declared.names.KeyId.{KeyId}
pub use Rattle.figures.specs.declared.names.Interval.{Interval}
pub use Rattle.figures.specs.declared.names.RightName.{RightName}
pub use Rattle.figures.specs.declared.accounts.Account.{Account}
pub use Rattle.figures.specs.declared.accounts.Account.TheVariants.{Counted, Purse}
pub use Rattle.figures.specs.declared.accounts.Credit.{Credit}
pub use Rattle.figures.specs.declared.accounts.Credit.TheVariants.{ToCounter, ToPurse}
pub use Rattle.figures.specs.declared.rights.Right.{Right}
pub use Rattle.figures.specs.declared.keys.Key.{Key}
pub use Rattle.figures.specs.declared.loads.Flags.{Flags}
pub use Rattle.figures.specs.declared.loads.Load.{Load}
pub use Rattle.figures.specs.declared.loads.Message.{Message}
pub use Rattle.figures.specs.declared.replies.Refusal.{Refusal}
pub use Rattle.figures.specs.declared.replies.Refusal.TheVariants.{BufferLength, Unreadable, Policy, Fields, EmptyInterval, UnknownId, Full, Integrity, NoFit, NoFunds, NotHeld}
pub use Rattle.figures.specs.declared.replies.Shown.{Shown}
pub use Rattle.figures.specs.declared.replies.Reply.{Reply}
pub use Rattle.figures.specs.declared.replies.Reply.TheVariants.{Loaded, Deleted, Granted, Reported, OverHeld, OverNew, Refused}
pub use Rattle.frames.specs.declared.Frame.{Frame}
pub use Rattle.frames.specs.declared.Frame.TheVariants.{Load as LoadFrame, Message as MessageFrame, Report as ReportFrame, Delete as DeleteFrame}
pub use Rattle.std.specs.Prelude.{Ok, Err}
pub use Rattle.frames.specs.Types.{Seen}
pub use Rattle.frames.specs.declared.ReadFrame.{ReadFrame}
pub use Rattle.book.specs.declared.Book.{Book}
pub use Rattle.book.specs.declared.Called.{Called}
