-- What each test of the reader says of a string that passes it. Assumes nothing.
use Prim.Native.Nat.{ℕ, ◌+◌, ◌≤◌}
use mathlib.Core.Path.{◌≡◌, refl, ap, ◌∙◌}
use mathlib.Core.Bool.{true, false}
use mathlib.Core.List.{List}
use lib.ListN.{length, drop, length-drop}
use lib.Seq.{length-take-le}
use borrow.Author.Tests.{eqb-true}
use native.Mathlib.Omega.{arith}
use Rattle.places.proofs.Tests.{if_elim, and_left, and_right}
use Rattle.figures.specs.Limits.{key_bytes}
use lib.Dec.{eqb}
use Rattle.frames.specs.Types.{Err, Unreadable}
use Rattle.frames.specs.Numbers.{field, total}
use Rattle.frames.specs.Layouts.{load_kind, message_kind, report_kind, delete_kind, message_widths, right_widths, load_widths, length_with, bit}
use Rattle.frames.specs.Reading.{spare_clear, is_mark, flags_in, mark_in, is_load, is_message, is_right, seen, key_present, key_beside}

pub record LoadPasses (s : List ℕ) : Type 0 where
  pub kind : field s 0 1 ≡ load_kind
  pub spare : spare_clear (flags_in s) ≡ true
  pub long : length s ≡ length_with load_widths (bit 1 (flags_in s))

pub load_passes : (s : List ℕ) → is_load s ≡ true → LoadPasses s
unfolding is_load
load_passes s e = record { kind = search (eqb-true, and_left, and_right); spare = search (and_left, and_right); long = search (eqb-true, and_left, and_right) }

pub record MessagePasses (s : List ℕ) : Type 0 where
  pub kind : field s 0 1 ≡ message_kind
  pub long : length s ≡ total message_widths
  pub mark : is_mark (mark_in s) ≡ true

pub message_passes : (s : List ℕ) → is_message s ≡ true → MessagePasses s
unfolding is_message
message_passes s e = record { kind = search (eqb-true, and_left, and_right); long = search (eqb-true, and_left, and_right); mark = search (and_left, and_right) }

pub record RightPasses (k : ℕ) (s : List ℕ) : Type 0 where
  pub kind : field s 0 1 ≡ k
  pub long : length s ≡ total right_widths

pub right_passes : (k : ℕ) (s : List ℕ) → is_right k s ≡ true → RightPasses k s
unfolding is_right
right_passes k s e = record { kind = search (eqb-true, and_left); long = search (eqb-true, and_right) }

-- ## A string of another kind

module _ (s : List ℕ) where
  pub no_load : eqb (field s 0 1) load_kind ≡ false → is_load s ≡ false
  unfolding is_load
  no_load e = rw e

  pub no_message : eqb (field s 0 1) message_kind ≡ false → is_message s ≡ false
  unfolding is_message
  no_message e = rw e

  pub no_right : (k : ℕ) → eqb (field s 0 1) k ≡ false → is_right k s ≡ false
  unfolding is_right
  no_right k e = rw e

  pub unreadable : is_load s ≡ false → is_message s ≡ false → is_right report_kind s ≡ false → is_right delete_kind s ≡ false → Err Unreadable ≡ seen s
  unfolding seen
  unreadable l m r d = rw (l, m, r, d)

-- ## How long it is

-- a load has its fields, and its key where flag bit 1 is set
pub load_long : (s : List ℕ) → is_load s ≡ true → total load_widths ≤ length s
load_long s e =
    let h = (load_passes s e).long in
    omega arith

pub keyed_long : (s : List ℕ) → key_present s ≡ true → total load_widths + key_bytes ≤ length s
keyed_long s e =
    let p = load_passes s (and_left (is_load s) (bit 1 (flags_in s)) e) in
    let h : length s ≡ total load_widths + key_bytes = p.long ∙ ap (length_with load_widths) (and_right (is_load s) (bit 1 (flags_in s)) e) in
    omega arith

-- ## The key beside what is read has sixteen bytes

pub key_sixteen : (s : List ℕ) → length (key_beside s) ≡ key_bytes
unfolding key_beside
key_sixteen s =
    if_elim (λ (k : List ℕ). length k ≡ key_bytes) (key_present s) _ _
    (λ e.
    let l = keyed_long s e in
    length-take-le key_bytes (drop (total load_widths) s) (simp length-drop (omega arith)))
    (λ e. refl)
