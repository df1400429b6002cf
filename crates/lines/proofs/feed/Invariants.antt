-- What was printed, and what is still to come. Each turn takes a line feed.
use Rattle.std.proofs.Common.{◌-◌, length}
use Rattle.lines.specs.Feeding.{seen}
use Rattle.lines.proofs.Going.{Going}
use Rattle.lines.proofs.feed.Given as goal

abbrev pub invariant-loop-ahead : goal.invariant-loop-ahead
invariant-loop-ahead l = Going l.input l.fn.out (seen l.initial.state) l.out (seen l.state) l.used l.made

abbrev pub decreases-loop-ahead : goal.decreases-loop-ahead
decreases-loop-ahead l = length l.input - l.used
