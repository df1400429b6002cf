-- The theorems on frames, stated; the files above this one in Lib.antt prove them. Those on promises stand in Tight.antt. Assumes nothing.
use Prim.Native.Nat.{ℕ, ◌+◌, ◌≤◌, ◌<◌}
use mathlib.Core.Path.{◌≡◌, refl}
use mathlib.Core.Bool.{Bool, true, false}
use mathlib.Core.List.{List, [], ◌∷◌}
use lib.ListN.{length, take}
use lib.Dec.{ltb}
use borrow.Author.Tests.{ltb-true}
use mir.Val.{Val}
use denote.Laws.{Is}
use Rattle.std.specs.Prelude.{if◌then◌else◌}
use Rattle.figures.specs.Limits.{key_bytes}
use Rattle.figures.specs.Keys.{zeros}
use Rattle.frames.specs.Types.{Frame, Seen, Ok, Err, Refusal, Unreadable, BufferLength}
use Rattle.frames.specs.Numbers.{total}
use Rattle.frames.specs.Layouts.{report_kind, delete_kind, load_widths, message_widths, right_widths, length_with, has_key, whole_length}
use Rattle.frames.specs.Reading.{is_load, is_message, is_right, seen, key_beside, reading}
use Rattle.frames.specs.Writing.{written_as, written, unwritten, writing}
use Rattle.frames.specs.RoundTrips.{Bytes, with_key, key_back}
use Rattle.frames.specs.contracts.Frame.{the_row}
use Rattle.frames.proofs.Back as Back
use Rattle.frames.proofs.Forth as Forth
use Rattle.frames.proofs.Blind as Blind
use Rattle.frames.proofs.Held.{held_fits}
use Rattle.frames.proofs.Answers.{written-length, has_room}

-- where each field of a row starts
abbrev starts : ℕ → List ℕ → List ℕ
starts at [] = []
starts at (w ∷ ws) = at ∷ starts (at + w) ws

-- 01, Frames: the places and the whole lengths of the table
pub the-table :
    (starts 0 load_widths ≡ 0 ∷ 1 ∷ 2 ∷ 3 ∷ 4 ∷ 6 ∷ 8 ∷ 12 ∷ 16 ∷ 17 ∷ 18 ∷ 22 ∷ [])
    × (starts 0 message_widths ≡ 0 ∷ 1 ∷ 2 ∷ 3 ∷ 4 ∷ 6 ∷ 8 ∷ 12 ∷ [])
    × (starts 0 right_widths ≡ 0 ∷ 1 ∷ 2 ∷ 3 ∷ 4 ∷ 6 ∷ 8 ∷ 12 ∷ 16 ∷ [])
    × (length_with load_widths false ≡ 26)
    × (length_with load_widths true ≡ 42)
    × (total message_widths ≡ 13)
    × (total right_widths ≡ 17)
the-table = (refl, refl, refl, refl, refl, refl, refl)

-- 01, Frames: what is written reads back, for every frame that the code can hold: machine values vs stand for it
pub there_and_back : (f : Frame) (vs : List Val) → Is the_row f vs → (k : List ℕ) → length k ≡ key_bytes → reading (written_as f k) ≡ with_key f (key_back f k)
there_and_back f vs h k e = Back.read_written f k (held_fits f vs h) e

-- 01, Frames: what is read is written as it stood, for every string of bytes
pub back_and_there : (s : List ℕ) → Bytes s → (f : Frame) (k : List ℕ) → reading s ≡ with_key f k → written_as f k ≡ s
back_and_there s b f k e = Forth.written_read s f k b e

-- 01, Frames: a written frame has the whole length of the table
pub whole_length_lem : (f : Frame) (k : List ℕ) → length k ≡ key_bytes → length (written_as f k) ≡ whole_length f
whole_length_lem f k e = written-length f k e

-- 01, Frames: only the key stands after a load's fields
pub key_apart : (s t : List ℕ) → length s ≡ length t → take (total load_widths) s ≡ take (total load_widths) t → seen s ≡ seen t
key_apart s t n e = Blind.same_frame s t n e

-- 01, Frames: the writer ignores the bytes given where no key is present
pub key_ignored : (f : Frame) (k l : List ℕ) → has_key f ≡ false → written_as f k ≡ written_as f l
unfolding written_as
key_ignored f k l e = rw e

-- 01, Frames and Replies: a frame that is refused is refused with 11, and zeros stand beside it
pub record RefusedRead (s : List ℕ) (x : Refusal) : Type 0 where
  pub code : x ≡ Unreadable
  pub zero : key_beside s ≡ zeros

whole_or : (t : Bool) (f : Frame) (y : Seen) (x : Refusal) → (if t then Ok f else y) ≡ Err x → (t ≡ false) × (y ≡ Err x)
whole_or true f y x e = cc
whole_or false f y x e = (refl, e)

pub refused_read : (s : List ℕ) (x : Refusal) → seen s ≡ Err x → RefusedRead s x
unfolding seen key_beside
refused_read s x e =
    let a = whole_or (is_load s) _ _ x e in
    let b = whole_or (is_message s) _ _ x a.1 in
    let c = whole_or (is_right report_kind s) _ _ x b.1 in
    let d = whole_or (is_right delete_kind s) _ _ x c.1 in
    record { code = cc; zero = rw a.0 }

-- 01, Frames and Replies: the writer refuses with 10, exactly where the buffer is shorter than the frame, and alters nothing
pub record RefusedWrite (f : Frame) (k u : List ℕ) (x : Refusal) : Type 0 where
  pub code : x ≡ BufferLength
  pub short : length u < whole_length f
  pub same : (writing f k u).buffer ≡ u

refused_by : (f : Frame) (k u : List ℕ) (t : Bool) (x : Refusal) → (if t then unwritten u else written f k u).answer ≡ Err x
    → (x ≡ BufferLength) × (t ≡ true) × ((if t then unwritten u else written f k u).buffer ≡ u)
refused_by f k u true x e = (cc, refl, refl)
refused_by f k u false x e = cc

pub wrote : (f : Frame) (k u : List ℕ) → whole_length f ≤ length u → writing f k u ≡ written f k u
wrote f k u h = has_room f k u h

pub refused_write : (f : Frame) (k u : List ℕ) (x : Refusal) → (writing f k u).answer ≡ Err x → RefusedWrite f k u x
unfolding writing
refused_write f k u x e =
    let h = refused_by f k u (ltb (length u) (whole_length f)) x e in
    record { code = h.0; short = ltb-true _ _ h.1; same = h.2 }
