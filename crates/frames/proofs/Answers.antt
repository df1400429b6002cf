-- How long a written frame is, and what the writer answers where the buffer is long enough and where it is not. Assumes nothing.
use Prim.Native.Nat.{ℕ, ◌≤◌, ◌<◌}
use mathlib.Core.Path.{◌≡◌, refl, sym, ap, ◌∙◌}
use mathlib.Core.List.{List, ◌++◌}
use lib.ListN.{length, drop, length-append}
use lib.Seq.{sets}
use borrow.Author.Tests.{lt-ltb, le-ltb}
use native.Mathlib.Omega.{arith}
use Rattle.figures.specs.Limits.{key_bytes}
use Rattle.frames.specs.Types.{Frame, LoadFrame, MessageFrame, ReportFrame, DeleteFrame, Ok, Err, BufferLength}
use Rattle.frames.specs.Layouts.{widths_of, whole_length}
use Rattle.frames.specs.Writing.{numbers_of, written_as, outcome, written, writing}
use Rattle.frames.proofs.Widths.{length-join}
use Rattle.frames.proofs.Stores.{sets_front}

-- a frame has a number for each width
pub numbers_many : (f : Frame) → length (widths_of f) ≡ length (numbers_of f)
numbers_many (LoadFrame l) = refl
numbers_many (MessageFrame m) = refl
numbers_many (ReportFrame n) = refl
numbers_many (DeleteFrame n) = refl

-- a frame with a key of sixteen bytes is as long as the table says
pub written-length : (f : Frame) (k : List ℕ) → length k ≡ key_bytes → length (written_as f k) ≡ whole_length f
unfolding written_as
written-length f k e =
    let j = length-join (widths_of f) (numbers_of f) (numbers_many f) in
    simp length-append (grind arith)

-- ## The answer

module _ (f : Frame) (k u : List ℕ) where
  pub too_short : length u < whole_length f → outcome (Err BufferLength) u ≡ writing f k u
  unfolding writing
  too_short h = rw (lt-ltb (length u) (whole_length f) h)

  pub has_room : whole_length f ≤ length u → writing f k u ≡ written f k u
  unfolding writing
  has_room h = rw (le-ltb (length u) (whole_length f) h)

  pub long_enough : length k ≡ key_bytes → whole_length f ≤ length u → outcome (Ok (whole_length f)) (sets u 0 (written_as f k)) ≡ writing f k u
  long_enough e h =
      let n = written-length f k e in
      let m : length (written_as f k) ≤ length u = omega arith in
      ap (outcome (Ok (whole_length f))) (sets_front (written_as f k) u m ∙ ap (λ (i : ℕ). written_as f k ++ drop i u) n) ∙ sym (has_room h)
