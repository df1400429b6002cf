-- The frame that a string reads as does not depend on what stands after a load's fields: its length and its numbers decide. Assumes nothing.
use Prim.Native.Nat.{ℕ}
use mathlib.Core.Path.{◌≡◌}
use mathlib.Core.List.{List}
use lib.ListN.{length, take}
use native.Mathlib.Omega.{arith}
use Rattle.frames.specs.Numbers.{total}
use Rattle.frames.specs.Layouts.{load_widths, message_widths}
use Rattle.frames.specs.Reading.{is_load, is_message, is_right, seen}
use Rattle.frames.proofs.Widths.{split_alike}

pub same_frame : (s t : List ℕ) → length s ≡ length t → take (total load_widths) s ≡ take (total load_widths) t → seen s ≡ seen t
unfolding seen is_load is_message is_right
same_frame s t n e =
    let l = split_alike load_widths (total load_widths) s t (omega arith) e in
    let m = split_alike message_widths (total load_widths) s t (omega arith) e in
    cc
