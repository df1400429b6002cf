-- The round trips through a buffer: the written frame stands at its front. Assumes nothing.
use Prim.Native.Nat.{ℕ, ◌≤◌, ◌<◌}
use mathlib.Core.Path.{◌≡◌, sym, ap, ◌∙◌}
use mathlib.Core.Bool.{true}
use mathlib.Core.List.{List, ◌++◌}
use lib.ListN.{length, take, drop, get_or, replicate, length-append, length-drop}
use lib.Seq.{take_at}
use native.Mathlib.Omega.{arith}
use Rattle.std.proofs.lemmas.List.Elements.{All-from_get_or}
use Rattle.figures.specs.Limits.{key_bytes}
use Rattle.frames.specs.Types.{Frame, LoadFrame, MessageFrame, ReportFrame, DeleteFrame, ReadFrame, Ok, Err, Refusal, Written}
use Rattle.frames.specs.Layouts.{load_widths, length_with, whole_length}
use Rattle.frames.specs.Reading.{seen, reading}
use Rattle.frames.specs.Writing.{Writing, written_as, outcome, written, writing}
use Rattle.frames.specs.RoundTrips.{IsByte, Bytes, Fits, with_key, key_back, copying}
use Rattle.frames.proofs.Answers.{written-length, has_room}
use Rattle.frames.proofs.Back.{read_written}
use Rattle.frames.proofs.Forth.{written_read}

-- no frame is longer than a load with its key
pub longest : (f : Frame) → whole_length f ≤ length_with load_widths true
longest (LoadFrame l) = grind arith
longest (MessageFrame m) = omega arith
longest (ReportFrame n) = omega arith
longest (DeleteFrame n) = omega arith

-- each element below 256
pub all_bytes : (s : List ℕ) → ((i : ℕ) → get_or s i 0 < 256) → Bytes s
all_bytes s h = All-from_get_or IsByte s 0 (λ i l. h i)

-- the buffer before the frame is written
abbrev zeroed : List ℕ
zeroed = replicate (length_with load_widths true) 0

-- a count of bytes, and the buffer that has them at its front
pub record Filled (f : Frame) (k : List ℕ) (n : ℕ) (v : List ℕ) : Type 0 where
  pub fits : n ≤ length v
  pub many : n ≡ length (take n v)
  pub back : Fits f → reading (take n v) ≡ with_key f (key_back f k)

-- where there is room the frame is written, and reads back from as many bytes as were answered
module _ (f : Frame) (k u : List ℕ) (e : length k ≡ key_bytes) (h : whole_length f ≤ length u) (r : Written) (v : List ℕ) (o : outcome r v ≡ writing f k u) where
  wrote : outcome r v ≡ written f k u
  wrote = o ∙ has_room f k u h

  answered : r ≡ Ok (whole_length f)
  answered = ap (λ (x : Writing). x.answer) wrote

  pub counted_in : (n : ℕ) → r ≡ Ok n → n ≡ whole_length f
  counted_in n c = let a = answered in cc

  pub never_refused : {C : Type 0} (x : Refusal) → r ≡ Err x → C
  never_refused x c = let a = answered in cc

  filled_in : (n : ℕ) → r ≡ Ok n → Filled f k n v
  filled_in n c =
      let q : v ≡ written_as f k ++ drop (whole_length f) u = ap (λ (x : Writing). x.buffer) wrote in
      let m = counted_in n c in
      let t : take n v ≡ written_as f k = rw (q, m) (take_at (written_as f k) (drop (whole_length f) u) (whole_length f) (written-length f k e)) in
      record {
        fits = rw q (simp (length-append, length-drop) (omega (arith, written-length f k e)));
        many = rw t (m ∙ sym (written-length f k e));
        back = λ g. rw t (read_written f k g e);
      }

  pub front_back : (n : ℕ) → Fits f → r ≡ Ok n → reading (take n v) ≡ with_key f (key_back f k)
  front_back n g c = (filled_in n c).back g

-- every frame has room in the buffer of zeros
module _ (f : Frame) (k : List ℕ) (r : Written) (v : List ℕ) (e : length k ≡ key_bytes) (o : outcome r v ≡ writing f k zeroed) where
  room : whole_length f ≤ length zeroed
  room = omega (arith, longest f)

  pub counted : r ≡ Ok (whole_length f)
  counted = answered f k zeroed e room r v o

  pub filled : (n : ℕ) → r ≡ Ok n → Filled f k n v
  filled = filled_in f k zeroed e room r v o

-- what is read is written as it stood, if it fits
pub copied_whole : (s u : List ℕ) (f : Frame) (k : List ℕ) → length k ≡ key_bytes → Bytes s → reading s ≡ with_key f k → writing f k u ≡ copying s u
unfolding writing copying
copied_whole s u f k e b r =
    let w : written_as f k ≡ s = written_read s f k b r in
    let n : whole_length f ≡ length s = sym (written-length f k e) ∙ ap length w in
    let g : seen s ≡ Ok f = ap (λ (x : ReadFrame). x.frame) r in
    rw (g, n, w)

pub copied_not : (s u : List ℕ) (x : Refusal) → seen s ≡ Err x → outcome (Err x) u ≡ copying s u
unfolding copying
copied_not s u x e = rw e
