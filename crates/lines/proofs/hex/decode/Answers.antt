use Rattle.std.proofs.Common.{◌≡◌, ◌+◌, ◌*◌, ◌/◌, Some, length, take, drop, get_or, bit_or, refl, sym, ap, ◌∙◌, arith}
use borrow.Author.Tests.{lt-ltb, le-ltb}
use lib.Seq.{take_all}
use Rattle.std.proofs.lemmas.Nat.{le_or_l, le_or_r}
use Rattle.lines.specs.Hex.{digit_value, all_digits, pairs}
use Rattle.lines.proofs.Spelling.{damaged-empty, damaged_odd, damaged_long, damaged-other, sound, spells_none, spells_some}
use Rattle.lines.proofs.Spelling.{pair_chars, next_digits, next_byte, all_done, length_pairs}
use Rattle.lines.proofs.hex.decode.Goals as goal
use Rattle.lines.proofs.hex.decode.Goals.{then-is_empty-via-then-is_empty, then-is_empty-via-else-is_empty+then-line-eq1, then-is_empty-via-else-is_empty+else-line-eq1+then-line-gt-LINE_DIGITS}

pub returns-then-is_empty : goal.returns-then-is_empty
returns-then-is_empty c =
    let l = c.args.line.now in
    spells_none l (elim c.then-is_empty.branch [
      | then-is_empty-via-then-is_empty w ↦ damaged-empty l (sym c.is_empty.ensures ∙ w.if-is_empty.true)
      | then-is_empty-via-else-is_empty+then-line-eq1 w ↦ damaged_odd l (omega arith)
      | then-is_empty-via-else-is_empty+else-line-eq1+then-line-gt-LINE_DIGITS w ↦ damaged_long l (omega arith)
    ])

pub loop-i-preserved : goal.loop-i-preserved
loop-i-preserved c =
    let l = c.args.line.now in
    let p = c.loop-i in
    let x = c.digit-high.result in
    let y = c.digit-low.result in
    let q = pair_chars l _ (length l / 2) p.i _ c.as_chunks.ensures.front (omega arith) (omega arith) in
    let e : x ≡ digit_value (get_or l (2 * p.i) 0) = c.digit-high.ensures ∙ ap digit_value q.0 in
    let f : y ≡ digit_value (get_or l (2 * p.i + 1) 0) = c.digit-low.ensures ∙ ap digit_value q.1 in
    record {
      digits = next_digits l p.i x y (omega arith) e f p.worst p.invariant.digits;
      bytes = λ g.
          next_byte l p.i x y (omega arith) e f p.bytes
          (omega (arith, le_or_r p.worst (bit_or x y), le_or_l x y))
          (omega (arith, le_or_r p.worst (bit_or x y), le_or_r x y))
          (omega arith)
          (p.invariant.bytes (omega (arith, le_or_l p.worst (bit_or x y))));
    }

pub returns-then-worst-gt15 : goal.returns-then-worst-gt15
returns-then-worst-gt15 c =
    let l = c.args.line.now in
    let p = c.loop-i in
    let none = le-ltb p.worst 16 (omega arith) in
    spells_none l (damaged-other l (rw none at (sym p.invariant.digits)))

pub returns : goal.returns
returns c =
    let l = c.args.line.now in
    let p = c.loop-i in
    let m : length (pairs l) ≡ length l / 2 = length_pairs l in
    let some = lt-ltb p.worst 16 (omega arith) in
    let digits : all_digits (drop (2 * p.i) l) ≡ all_digits l = rw some at p.invariant.digits in
    let whole : take p.i (pairs l) ≡ pairs l = take_all p.i (pairs l) (omega arith) in
    let many : length c.as_chunks.result.0.now ≡ length (pairs l) = omega arith in
    ap Some (c.holding.ensures ∙ rw (p.invariant.bytes (omega arith), whole, many) refl)
    ∙ spells_some l (sound l (sym c.is_empty.ensures ∙ c.if-is_empty.false) (omega arith) (omega arith) (all_done l p.i (omega arith) digits))
