-- What is written reads back as it was: by the flags or the mark of the frame, each test of the reader computes. Assumes nothing.
use Prim.Native.Nat.{ℕ}
use mathlib.Core.Path.{◌≡◌, ap, ap₂}
use mathlib.Core.Bool.{Bool, true, false}
use mathlib.Core.List.{List, [], ◌++◌}
use lib.ListN.{length}
use lib.Seq.{take_all}
use native.Mathlib.Omega.{arith}
use Rattle.figures.specs.Limits.{key_bytes}
use Rattle.figures.specs.Keys.{zeros}
use Rattle.frames.specs.Types.{Frame, LoadFrame, MessageFrame, ReportFrame, DeleteFrame, Load, Message}
use Rattle.frames.specs.Numbers.{split, join}
use Rattle.frames.specs.Layouts.{widths_of}
use Rattle.frames.specs.Reading.{name_from, load_from, message_from, is_load, is_message, is_right, seen, key_beside, reading}
use Rattle.frames.specs.Writing.{numbers_of, written_as}
use Rattle.frames.specs.RoundTrips.{Fits, with_key, key_back}
use Rattle.frames.proofs.Widths.{split-join}

abbrev ReadsBack : Frame → List ℕ → Type 0
ReadsBack f k = reading (written_as f k) ≡ with_key f (key_back f k)

split_back : (f : Frame) (t : List ℕ) → Fits f → split (widths_of f) 0 (join (widths_of f) (numbers_of f) ++ t) ≡ numbers_of f
split_back f t h = split-join (widths_of f) (numbers_of f) t h

-- a load with these flags, a message with this mark
abbrev loaded : Bool → Bool → Load → Load
loaded a b l = record { name = l.name; flags = record { add = a; key = b }; amount = l.amount; cost = l.cost }

abbrev as_load : List ℕ → Frame
as_load ns = LoadFrame (load_from ns)

abbrev sent : Bool → Message → Message
sent g m = record { id = m.id; ts = m.ts; good = g }

load_back : (a b : Bool) (l : Load) (k : List ℕ) → length k ≡ key_bytes → Fits (LoadFrame (loaded a b l)) → ReadsBack (LoadFrame (loaded a b l)) k
unfolding written_as seen key_beside is_load
load_back true true l k e h = rw e (ap₂ with_key (ap as_load (split_back (LoadFrame (loaded true true l)) k h)) (take_all key_bytes k (omega arith)))
load_back false true l k e h = rw e (ap₂ with_key (ap as_load (split_back (LoadFrame (loaded false true l)) k h)) (take_all key_bytes k (omega arith)))
load_back true false l k e h = ap (λ (ns : List ℕ). with_key (as_load ns) zeros) (split_back (LoadFrame (loaded true false l)) [] h)
load_back false false l k e h = ap (λ (ns : List ℕ). with_key (as_load ns) zeros) (split_back (LoadFrame (loaded false false l)) [] h)

message_back : (g : Bool) (m : Message) (k : List ℕ) → Fits (MessageFrame (sent g m)) → ReadsBack (MessageFrame (sent g m)) k
unfolding written_as seen key_beside is_load is_message
message_back true m k h = ap (λ (ns : List ℕ). with_key (MessageFrame (message_from ns)) zeros) (split_back (MessageFrame (sent true m)) [] h)
message_back false m k h = ap (λ (ns : List ℕ). with_key (MessageFrame (message_from ns)) zeros) (split_back (MessageFrame (sent false m)) [] h)

pub read_written : (f : Frame) (k : List ℕ) → Fits f → length k ≡ key_bytes → ReadsBack f k
unfolding written_as seen key_beside is_load is_message is_right
read_written (LoadFrame l) k h e = load_back l.flags.add l.flags.key l k e h
read_written (MessageFrame m) k h e = message_back m.good m k h
read_written (ReportFrame n) k h e = ap (λ (ns : List ℕ). with_key (ReportFrame (name_from ns)) zeros) (split_back (ReportFrame n) [] h)
read_written (DeleteFrame n) k h e = ap (λ (ns : List ℕ). with_key (DeleteFrame (name_from ns)) zeros) (split_back (DeleteFrame n) [] h)
