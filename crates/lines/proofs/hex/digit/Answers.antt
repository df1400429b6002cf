-- The table is held against the definition at each of the 256 characters, by computing.
use Rattle.std.proofs.Common.{true, get_or, refl, arith}
use Rattle.std.proofs.lemmas.Bool.{agree_below_at}
use borrow.Author.Tests.{eqb-true}
use lib.Dec.{eqb}
use Rattle.lines.specs.declared.hex.TheConstants.{DIGITS}
use Rattle.lines.specs.Hex.{digit_value}
use Rattle.lines.proofs.hex.digit.Goals as goal

pub returns : goal.returns
unfolding digit_value
returns c = eqb-true _ _ (agree_below_at (λ k. eqb (get_or DIGITS k 0) (digit_value k)) (λ _. true) 256 c.args.c refl (omega arith))
