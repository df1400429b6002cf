-- What is printed so far, and that the rest of the chunk comes next. Each turn takes characters, since there is room for a reply.
use Rattle.std.proofs.Common.{ℕ, List, length}
use Rattle.std.specs.Io.KnownBytes.{Appends}
use Rattle.lines.specs.Feeding.{seen}
use Rattle.bookrun.proofs.Leading.{Leads}
use Rattle.bookrun.proofs.Replies.answer.Given as goal

abbrev pub invariant-loop-rest : goal.invariant-loop-rest
invariant-loop-rest g l =
    (bytes : List ℕ) × Appends (g.W.Write.contents l.fn.self.output) (g.W.Write.contents l.self.output) bytes
    × Leads (seen l.fn.self.state) l.fn.chunk (seen l.self.state) l.rest bytes

abbrev pub decreases-loop-rest : goal.decreases-loop-rest
decreases-loop-rest g l = length l.rest
