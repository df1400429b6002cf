-- What a frame is written as: 01, Frames.
use Rattle.std.specs.Prelude.{ℕ, ◌+◌, Bool, List, [], ◌∷◌, ◌++◌, length, drop, ltb, if◌then◌else◌}
use Rattle.frames.specs.Types.{KeyId, RightName, Flags, Load, Message, BufferLength, Frame, LoadFrame, MessageFrame, ReportFrame, DeleteFrame, Written, Ok, Err}
use Rattle.frames.specs.Numbers.{join}
use Rattle.frames.specs.Layouts.{load_kind, message_kind, report_kind, delete_kind, widths_of, has_key, whole_length}

-- ## The numbers of a frame in the table's order

-- 01, Frames: the kind, then the key ID
abbrev pub id_numbers : ℕ → KeyId → List ℕ
id_numbers k i = k ∷ i.domain.0 ∷ i.domain.1 ∷ i.domain.2 ∷ i.group ∷ i.number ∷ []

-- 01, Frames: the integrity mark is 01 (checked good) or 00 (bad)
abbrev pub mark_byte : Bool → ℕ
mark_byte good = if good then 1 else 0

-- 01, Frames, kind 02
abbrev pub message_numbers : Message → List ℕ
message_numbers m = id_numbers message_kind m.id ++ m.ts.0 ∷ mark_byte m.good ∷ []

-- 01, Frames, kinds 03 and 04
abbrev pub name_numbers : ℕ → RightName → List ℕ
name_numbers k n = id_numbers k n.id ++ n.interval.low.0 ∷ n.interval.high.0 ∷ n.spe ∷ []

-- 01, Frames: flag bit 0 set means add, flag bit 1 set that the key is present
abbrev pub flags_byte : Flags → ℕ
flags_byte f = (if f.add then 1 else 0) + (if f.key then 2 else 0)

-- 01, Frames, kind 01
abbrev pub load_numbers : Load → List ℕ
load_numbers l = name_numbers load_kind l.name ++ flags_byte l.flags ∷ l.amount ∷ l.cost.0 ∷ []

-- 01, Frames: a frame's row of the table, filled in
abbrev pub numbers_of : Frame → List ℕ
numbers_of (LoadFrame l) = load_numbers l
numbers_of (MessageFrame m) = message_numbers m
numbers_of (ReportFrame n) = name_numbers report_kind n
numbers_of (DeleteFrame n) = name_numbers delete_kind n

-- ## The bytes

-- 01, Frames: the writer ignores the bytes given where no key is present
abbrev pub carried : Frame → List ℕ → List ℕ
carried f k = if has_key f then k else []

-- 01, Frames: the bytes of a frame, and its key if present
unfoldable pub written_as : Frame → List ℕ → List ℕ
written_as f k = join (widths_of f) (numbers_of f) ++ carried f k

-- ## The answer, and the buffer afterwards

-- what the writer answers, and the buffer after it
pub record Writing : Type 0 where
  pub answer : Written
  pub buffer : List ℕ

-- the two together
abbrev pub outcome : Written → List ℕ → Writing
outcome r u = record { answer = r; buffer = u }

-- 01, Replies, 10: for the writer, buffer too short; nothing is altered
abbrev pub unwritten : List ℕ → Writing
unwritten u = outcome (Err BufferLength) u

-- 01, Frames: the frame at the front, later bytes as found, the number of bytes written
abbrev pub written : Frame → List ℕ → List ℕ → Writing
written f k u = outcome (Ok (whole_length f)) (written_as f k ++ drop (whole_length f) u)

-- 01, Frames: refused exactly when the buffer is shorter than the frame
unfoldable pub writing : Frame → List ℕ → List ℕ → Writing
writing f k u = if ltb (length u) (whole_length f) then unwritten u else written f k u
