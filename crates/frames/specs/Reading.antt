-- What a byte string reads as: 01, Frames.
use Rattle.std.specs.Prelude.{ℕ, Bool, ◌&&◌, List, length, get_or, take, drop, eqb, ltb, if◌then◌else◌}
use Rattle.figures.specs.Limits.{key_bytes}
use Rattle.figures.specs.Keys.{zeros}
use Rattle.frames.specs.Types.{KeyId, RightName, Flags, Load, Message, Unreadable, LoadFrame, MessageFrame, ReportFrame, DeleteFrame, Seen, Ok, Err, ReadFrame}
use Rattle.frames.specs.Numbers.{field, split, total}
use Rattle.frames.specs.Layouts.{load_kind, message_kind, report_kind, delete_kind, message_widths, right_widths, load_widths, length_with, bit}

-- ## The fields, from the numbers of a frame in the table's order, number 0 being the kind

-- 01, Frames: key domain, key group, key number
abbrev pub id_from : List ℕ → KeyId
id_from ns = record { domain = record { 0 = get_or ns 1 0; 1 = get_or ns 2 0; 2 = get_or ns 3 0 }; group = get_or ns 4 0; number = get_or ns 5 0 }

-- 01, Rights: a right is named by ID, TS low, TS high and SPE
abbrev pub name_from : List ℕ → RightName
name_from ns = record { id = id_from ns; interval = record { low = record { 0 = get_or ns 6 0 }; high = record { 0 = get_or ns 7 0 } }; spe = get_or ns 8 0 }

-- 01, Frames: flag bit 0 set means add, flag bit 1 set means that the key is present
abbrev pub flags_from : ℕ → Flags
flags_from b = record { add = bit 0 b; key = bit 1 b }

-- 01, Frames, kind 01: name, flags, amount, cost
abbrev pub load_from : List ℕ → Load
load_from ns = record { name = name_from ns; flags = flags_from (get_or ns 9 0); amount = get_or ns 10 0; cost = record { 0 = get_or ns 11 0 } }

-- 01, Frames, kind 02: ID, TS, integrity mark, 01 checked good
abbrev pub message_from : List ℕ → Message
message_from ns = record { id = id_from ns; ts = record { 0 = get_or ns 6 0 }; good = eqb (get_or ns 7 0) 1 }

-- ## The tests: kind, length, flag bits, length against flag bit 1, mark

-- 01, Frames: byte 0 is the kind; that of the empty string reads 0, which is none
abbrev pub is_kind : ℕ → List ℕ → Bool
is_kind k s = eqb (field s 0 1) k

-- 01, Frames: flag bits 2 to 7 are zero
abbrev pub spare_clear : ℕ → Bool
spare_clear b = ltb b 4

-- 01, Frames: the integrity mark is 01 (checked good) or 00 (bad)
abbrev pub is_mark : ℕ → Bool
is_mark b = ltb b 2

-- 01, Frames: where a load has its flags
abbrev pub flags_in : List ℕ → ℕ
flags_in s = get_or (split load_widths 0 s) 9 0

-- 01, Frames: where a message has its mark
abbrev pub mark_in : List ℕ → ℕ
mark_in s = get_or (split message_widths 0 s) 7 0

-- 01, Frames, kind 01: 26 bytes, or 42 where flag bit 1 is set; no flag but bits 0 and 1
unfoldable pub is_load : List ℕ → Bool
is_load s = is_kind load_kind s && spare_clear (flags_in s) && eqb (length s) (length_with load_widths (bit 1 (flags_in s)))

-- 01, Frames, kind 02
unfoldable pub is_message : List ℕ → Bool
is_message s = is_kind message_kind s && eqb (length s) (total message_widths) && is_mark (mark_in s)

-- 01, Frames, kinds 03 and 04
unfoldable pub is_right : ℕ → List ℕ → Bool
is_right k s = is_kind k s && eqb (length s) (total right_widths)

-- ## The answer

-- 01, Frames: one of four kinds; 01, Replies, 11, where the reader's tests fail
unfoldable pub seen : List ℕ → Seen
seen s =
    if is_load s then Ok (LoadFrame (load_from (split load_widths 0 s)))
    else (if is_message s then Ok (MessageFrame (message_from (split message_widths 0 s)))
    else (if is_right report_kind s then Ok (ReportFrame (name_from (split right_widths 0 s)))
    else (if is_right delete_kind s then Ok (DeleteFrame (name_from (split right_widths 0 s)))
    else Err Unreadable)))

-- 01, Frames: a load whose flag bit 1 is set
abbrev pub key_present : List ℕ → Bool
key_present s = is_load s && bit 1 (flags_in s)

-- 01, Frames: sixteen zero bytes where no key is present, or the frame is refused
unfoldable pub key_beside : List ℕ → List ℕ
key_beside s = if key_present s then take key_bytes (drop (total load_widths) s) else zeros

-- 01, Frames: a frame, and the sixteen key bytes beside it
abbrev pub reading : List ℕ → ReadFrame
reading s = record { frame = seen s; key = key_beside s }
