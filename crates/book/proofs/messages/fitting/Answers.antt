use Rattle.std.proofs.Common.{rules}
use Rattle.std.proofs.lemmas.Iterator.{YieldsList-from_slice}
use Rattle.figures.specs.Rights.{fits}
use Rattle.places.proofs.Searches.{first_walked}
use Rattle.book.proofs.messages.fitting.Goals as goal

pub returns : goal.returns
returns c = first_walked (λ r. fits c.args.message c.args.replay r) _ _ _ c.position.ensures.ran (YieldsList-from_slice _ c.iter.ensures.rest) (λ x b q k. search rules)
