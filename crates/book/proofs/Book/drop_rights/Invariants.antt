use Rattle.std.proofs.Common.{◌≡◌}
use Rattle.figures.specs.Rights.{free_right, is_of}
use Rattle.book.proofs.Leaving.{upto}
use Rattle.book.proofs.Book.drop_rights.Given as goal

abbrev pub invariant-loop-right : goal.invariant-loop-right
invariant-loop-right l = l.right-items ≡ upto (λ r. is_of l.id r) free_right l.right-index l.fn.self.rights
