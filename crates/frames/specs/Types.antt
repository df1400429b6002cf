-- The types that the definitions speak of and their cases, under one name; a frame's cases are named apart from what they hold.
pub use Rattle.figures.specs.declared.names.KeyId.{KeyId}
pub use Rattle.figures.specs.declared.names.RightName.{RightName}
pub use Rattle.figures.specs.declared.loads.Flags.{Flags}
pub use Rattle.figures.specs.declared.loads.Load.{Load}
pub use Rattle.figures.specs.declared.loads.Message.{Message}
pub use Rattle.figures.specs.declared.replies.Refusal.{Refusal}
pub use Rattle.figures.specs.declared.replies.Refusal.TheVariants.{BufferLength, Unreadable}
pub use Rattle.frames.specs.declared.Frame.{Frame}
pub use Rattle.frames.specs.declared.Frame.TheVariants.{Load as LoadFrame, Message as MessageFrame, Report as ReportFrame, Delete as DeleteFrame}
use Rattle.std.specs.Prelude.{ℕ}
pub use Rattle.std.specs.Prelude.{Result, Ok, Err}
pub use Rattle.frames.specs.declared.ReadFrame.{ReadFrame}

-- what a byte string reads as
abbrev pub Seen : Type 0
Seen = Result Frame Refusal

-- how many bytes were written, or why none were
abbrev pub Written : Type 0
Written = Result ℕ Refusal
