-- What is read is written as it stood: what a test says of the string makes its numbers those of the frame. Assumes nothing.
use Prim.Native.Nat.{ℕ, zero, suc}
use mathlib.Core.Path.{◌≡◌, refl, ap, ap₂, subst, ◌∙◌}
use mathlib.Core.Bool.{Bool, true, false}
use mathlib.Core.List.{List, [], ◌++◌, append-nil}
use lib.ListN.{length, take, drop, take-append-drop, length-drop}
use lib.Seq.{take_all}
use lib.Dec.{eqb}
use borrow.Author.Tests.{ltb-true}
use native.Mathlib.Omega.{arith}
use Rattle.std.specs.Prelude.{if◌then◌else◌}
use Rattle.places.proofs.Tests.{if_elim}
use Rattle.figures.specs.Limits.{key_bytes}
use Rattle.figures.specs.Keys.{zeros}
use Rattle.frames.specs.Types.{Frame, LoadFrame, Seen, Ok, Err, ReadFrame}
use Rattle.frames.specs.Numbers.{split, join, total}
use Rattle.frames.specs.Layouts.{report_kind, delete_kind, message_widths, right_widths, load_widths, length_with, bit}
use Rattle.frames.specs.Reading.{name_from, flags_from, load_from, message_from, spare_clear, is_mark, flags_in, mark_in, is_load, is_message, is_right, seen, key_beside, reading}
use Rattle.frames.specs.Writing.{mark_byte, flags_byte, message_numbers, name_numbers, load_numbers, written_as}
use Rattle.frames.specs.RoundTrips.{Bytes, with_key}
use Rattle.frames.proofs.Widths.{join-split, join_split_all}
use Rattle.frames.proofs.Tests.{load_passes, message_passes, right_passes}

-- what was seen is written as s again
abbrev Back : Seen → List ℕ → List ℕ → Type 0
Back (Ok f) k s = written_as f k ≡ s
Back (Err r) k s = Unit {0}

flags_again : (b : ℕ) → spare_clear b ≡ true → flags_byte (flags_from b) ≡ b
flags_again zero h = refl
flags_again (suc zero) h = refl
flags_again (suc (suc zero)) h = refl
flags_again (suc (suc (suc zero))) h = refl
flags_again (suc (suc (suc (suc b)))) h = absurd (omega (arith, ltb-true))

mark_again : (b : ℕ) → is_mark b ≡ true → mark_byte (eqb b 1) ≡ b
mark_again zero h = refl
mark_again (suc zero) h = refl
mark_again (suc (suc b)) h = absurd (omega (arith, ltb-true))

module _ (s : List ℕ) (b : Bytes s) where
  -- the fields of a load, and the key after them if flag bit 1 says so
  load_by : (t : Bool) → length s ≡ length_with load_widths t
      → join load_widths (split load_widths 0 s) ++ (if t then (if t then take key_bytes (drop (total load_widths) s) else zeros) else []) ≡ s
  load_by true l =
      ap₂ ◌++◌ (join-split load_widths 0 s b (omega arith)) (take_all key_bytes (drop (total load_widths) s) (simp length-drop (omega arith)))
      ∙ take-append-drop (total load_widths) s
  load_by false l = append-nil (join load_widths (split load_widths 0 s)) ∙ join_split_all load_widths s b (omega arith)

  load_forth : is_load s ≡ true → written_as (LoadFrame (load_from (split load_widths 0 s))) (key_beside s) ≡ s
  unfolding written_as key_beside
  load_forth e =
      let p = load_passes s e in
      let n : load_numbers (load_from (split load_widths 0 s)) ≡ split load_widths 0 s = rw (p.kind, flags_again (flags_in s) p.spare) in
      let k : key_beside s ≡ (if bit 1 (flags_in s) then take key_bytes (drop (total load_widths) s) else zeros) = rw e in
      ap₂ (λ (ns key : List ℕ). join load_widths ns ++ (if bit 1 (flags_in s) then key else [])) n k ∙ load_by (bit 1 (flags_in s)) p.long

  message_forth : is_message s ≡ true → join message_widths (message_numbers (message_from (split message_widths 0 s))) ≡ s
  message_forth e =
      let p = message_passes s e in
      let n : message_numbers (message_from (split message_widths 0 s)) ≡ split message_widths 0 s = rw (p.kind, mark_again (mark_in s) p.mark) in
      ap (join message_widths) n ∙ join_split_all message_widths s b p.long

  right_forth : (k : ℕ) → is_right k s ≡ true → join right_widths (name_numbers k (name_from (split right_widths 0 s))) ≡ s
  right_forth k e =
      let p = right_passes k s e in
      let n : name_numbers k (name_from (split right_widths 0 s)) ≡ split right_widths 0 s = rw p.kind in
      ap (join right_widths) n ∙ join_split_all right_widths s b p.long

  AsRead : Seen → Type 0
  AsRead x = Back x (key_beside s) s

  forth : Back (seen s) (key_beside s) s
  unfolding written_as seen AsRead
  forth =
      if_elim AsRead (is_load s) _ _ load_forth
      (λ l. if_elim AsRead (is_message s) _ _ message_forth
      (λ m. if_elim AsRead (is_right report_kind s) _ _ (right_forth report_kind)
      (λ r. if_elim AsRead (is_right delete_kind s) _ _ (right_forth delete_kind) (λ d. tt))))

pub written_read : (s : List ℕ) (f : Frame) (k : List ℕ) → Bytes s → reading s ≡ with_key f k → written_as f k ≡ s
written_read s f k b e = subst (λ (r : ReadFrame). Back r.frame r.key s) e (forth s b)
