-- The table of 01, Frames: the kinds, the widths of their fields in order, and the whole lengths that follow.
use Rattle.std.specs.Prelude.{ℕ, ◌+◌, ◌/◌, ◌%◌, ◌^◌, Bool, false, List, [], ◌∷◌, ◌++◌, eqb, if◌then◌else◌}
use Rattle.figures.specs.Limits.{key_bytes}
use Rattle.frames.specs.Types.{Frame, LoadFrame, MessageFrame, ReportFrame, DeleteFrame}
use Rattle.frames.specs.Numbers.{total}

-- 01, Frames: byte 0 is the kind: a load
abbrev pub load_kind : ℕ
load_kind = 0x01

-- a short term message
abbrev pub message_kind : ℕ
message_kind = 0x02

-- a report
abbrev pub report_kind : ℕ
report_kind = 0x03

-- delete one right
abbrev pub delete_kind : ℕ
delete_kind = 0x04

-- 01, Frames: the kind, then the key ID: key domain 3, one number for each byte, key group 2, key number 2
abbrev pub id_widths : List ℕ
id_widths = 1 ∷ 1 ∷ 1 ∷ 1 ∷ 2 ∷ 2 ∷ []

-- 01, Frames, kind 02: ID, TS, integrity mark
abbrev pub message_widths : List ℕ
message_widths = id_widths ++ 4 ∷ 1 ∷ []

-- 01, Frames, kinds 03 and 04: ID, TS low, TS high, SPE
abbrev pub right_widths : List ℕ
right_widths = id_widths ++ 4 ∷ 4 ∷ 1 ∷ []

-- 01, Frames, kind 01: the same, then flags, amount, cost; the key follows if present
abbrev pub load_widths : List ℕ
load_widths = right_widths ++ 1 ∷ 4 ∷ 4 ∷ []

-- 01, Frames: the whole length of a frame of these widths, with a key or without
abbrev pub length_with : List ℕ → Bool → ℕ
length_with ws keyed = total ws + (if keyed then key_bytes else 0)

-- 01, Frames: a frame's row of the table
abbrev pub widths_of : Frame → List ℕ
widths_of (LoadFrame l) = load_widths
widths_of (MessageFrame m) = message_widths
widths_of (ReportFrame n) = right_widths
widths_of (DeleteFrame n) = right_widths

-- 01, Frames: flag bit 1 set means that the key is present; only a load has flags
abbrev pub has_key : Frame → Bool
has_key (LoadFrame l) = l.flags.key
has_key (MessageFrame m) = false
has_key (ReportFrame n) = false
has_key (DeleteFrame n) = false

-- 01, Frames: the whole length of a frame
abbrev pub whole_length : Frame → ℕ
whole_length f = length_with (widths_of f) (has_key f)

-- 01, Frames: flag bit n is set
abbrev pub bit : ℕ → ℕ → Bool
bit n b = eqb (b / 2 ^ n % 2) 1
