-- The text that is read so far, and that it is answered.
use Rattle.std.proofs.Common.{ℕ, List}
use Rattle.std.specs.Io.KnownBytes.{Consumes}
use Rattle.lines.specs.Feeding.{seen}
use Rattle.bookrun.specs.Prints.{Answers}
use Rattle.bookrun.proofs.run.Given as goal

abbrev pub invariant-loop : goal.invariant-loop
invariant-loop g l =
    (text : List ℕ) × Consumes (g.R.Read.remaining l.fn.input) (g.R.Read.remaining l.input) text
    × Answers (seen l.fn.replies.state) text (seen l.replies.state)
    (g.W.Write.contents l.fn.replies.output) (g.W.Write.contents l.replies.output)
