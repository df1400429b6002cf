-- A place that was found is a place of the list.
use Rattle.std.proofs.Common.{sym, arith}
use Rattle.rules.specs.Pages.{right_at}
use Rattle.rules.proofs.InPlace.{right_inside}
use Rattle.book.specs.Pages.{pages}
use Rattle.book.proofs.Book.serve_delete.Goals as goal

pub offset_bounds-self-place : goal.offset_bounds-self-place
unfolding right_at
offset_bounds-self-place c = omega (arith, right_inside (pages c.args.self.now) c.args.name _ (sym c.in-Some.ensures))

pub bounds-self-place : goal.bounds-self-place
unfolding right_at
bounds-self-place c = omega (arith, right_inside (pages c.args.self.now) c.args.name _ (sym c.in-Some.ensures))
