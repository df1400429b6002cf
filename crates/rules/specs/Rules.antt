-- Every call: 01, Replies.
use Rattle.std.specs.Prelude.{ℕ, not, List, [], length, eqb, if◌then◌else◌}
use Rattle.figures.specs.Limits.{key_bytes}
use Rattle.figures.specs.Policies.{is_deletion}
use Rattle.frames.specs.Reading.{reading}
use Rattle.rules.specs.Types.{Load, Refused, BufferLength, Frame, LoadFrame, MessageFrame, ReportFrame, DeleteFrame, Seen, Ok, Err}
use Rattle.rules.specs.Pages.{Pages}
use Rattle.rules.specs.Calls.{After, Check, ◌⇒◌∣◌, unchanged, unless}
use Rattle.rules.specs.Loads.{store}
use Rattle.rules.specs.Deletions.{report, delete, erase}
use Rattle.rules.specs.Messages.{message}

-- ## By kind

-- 01, Rights: SPE 0A deletes, and holds nothing
unfoldable pub load : Pages → List ℕ → Load → List ℕ → After
load b u l key = if is_deletion l.name.spe then erase b u l else store b u l key

-- 01, Frames: one of four kinds
unfoldable pub act : Pages → List ℕ → Frame → List ℕ → After
act b u (LoadFrame l) key = load b u l key
act b u (MessageFrame m) key = message b u m
act b u (ReportFrame n) key = report b u n
act b u (DeleteFrame n) key = delete b u n

-- ## Every call: 10, 11

-- 01, Replies, 10: key buffer is not 16 bytes long
unfoldable pub buffer_refusals : List ℕ → List Check
buffer_refusals u = not (eqb (length u) key_bytes) ⇒ Refused BufferLength ∣ []

-- a parsed frame, the key bytes beside it, and the lent key buffer
unfoldable pub step : Pages → Frame → List ℕ → List ℕ → After
step b f key u = unless b u (buffer_refusals u) (act b u f key)

-- 01, Replies, 11: the reader's tests fail
unfoldable pub taken : Pages → List ℕ → Seen → List ℕ → After
taken b u (Ok f) key = act b u f key
taken b u (Err r) key = unchanged b u (Refused r)

-- 01, Replies: every call: 10, 11; a byte string and the lent key buffer
unfoldable pub call : Pages → List ℕ → List ℕ → After
call b s u = unless b u (buffer_refusals u) (taken b u (reading s).frame (reading s).key)
