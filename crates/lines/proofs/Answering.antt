-- What a line's decoding says of its answer. Assumes nothing.
use mathlib.Core.Path.{◌≡◌, refl}
use mathlib.Core.Bool.{Bool, true, false}
use mathlib.Core.List.{List}
use Prim.Native.Nat.{ℕ, ◌/◌, ◌≤◌}
use native.Mathlib.Omega.{arith}
use borrow.Author.Tests.{ltb-true, ltb-false}
use lib.Dec.{ltb}
use lib.ListN.{length, take, drop}
use lib.Seq.{take_at}
use Rattle.std.specs.Prelude.{None, Some, if◌then◌else◌}
use Rattle.figures.specs.Limits.{line_digits}
use Rattle.rules.specs.Pages.{Pages}
use Rattle.rules.specs.Calls.{unchanged}
use Rattle.rules.specs.Rules.{call}
use Rattle.lines.specs.Types.{Row, Refused, Unreadable}
use Rattle.lines.specs.Hex.{damaged, pairs, frame_bytes, blank, spelt, decoding}
use Rattle.lines.specs.Answers.{lent, answer}
use Rattle.lines.proofs.Spelling.{damaged_long, length_pairs}

module _ (b : Pages) (l : List ℕ) where
  pub answer-damaged : damaged l ≡ true → answer b l ≡ unchanged b lent (Refused Unreadable)
  unfolding answer
  answer-damaged h = simp h

  pub refuses : decoding l ≡ None → answer b l ≡ unchanged b lent (Refused Unreadable)
  unfolding answer decoding
  refuses h = by_test (damaged l) h
    where
      by_test : (t : Bool) → (if t then None else Some (spelt (pairs l))) ≡ None
          → (if t then unchanged b lent (Refused Unreadable) else call b (pairs l) lent) ≡ unchanged b lent (Refused Unreadable)
      by_test true e = refl
      by_test false e = cc

  pub calls : (f : Row frame_bytes) → decoding l ≡ Some f → answer b l ≡ call b (take f.count f.bytes) lent
  unfolding answer decoding
  calls f h = by_test (damaged l) h
    where
      by_test : (t : Bool) → (if t then None else Some (spelt (pairs l))) ≡ Some f
          → (if t then unchanged b lent (Refused Unreadable) else call b (pairs l) lent) ≡ call b (take f.count f.bytes) lent
      by_test true e = cc
      by_test false e = let s : f ≡ spelt (pairs l) = cc in rw (s, take_at (pairs l) (drop (length (pairs l)) blank) (length (pairs l)) refl)

-- a line that is not damaged has no more than 84 characters
pub short : (l : List ℕ) → damaged l ≡ false → length l ≤ line_digits
short l h = by_length (ltb line_digits (length l)) refl
  where
    by_length : (t : Bool) → ltb line_digits (length l) ≡ t → length l ≤ line_digits
    by_length true e = let d = damaged_long l (ltb-true line_digits (length l) e) in cc
    by_length false e = ltb-false line_digits (length l) e

-- and spells no more bytes than there is room for
pub size_small : (l : List ℕ) (r : Row frame_bytes) → decoding l ≡ Some r → r.count ≤ length blank
unfolding decoding
size_small l r h = by_test (damaged l) refl h
  where
    by_test : (t : Bool) → damaged l ≡ t → (if t then None else Some (spelt (pairs l))) ≡ Some r → r.count ≤ length blank
    by_test true e f = cc
    by_test false e f =
        let s : r ≡ spelt (pairs l) = cc in
        let m : length (pairs l) ≡ length l / 2 = length_pairs l in
        rw s (omega (arith, short l e))
