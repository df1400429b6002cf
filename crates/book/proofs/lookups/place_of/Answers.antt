use Rattle.std.proofs.Common.{rules}
use Rattle.std.proofs.lemmas.Iterator.{YieldsList-from_slice}
use Rattle.places.proofs.Searches.{first_walked}
use Rattle.book.proofs.lookups.place_of.Goals as goal

pub returns : goal.returns
returns g c = first_walked (λ p. g.P.Held.named c.args.name p) _ _ _ c.position.ensures.ran (YieldsList-from_slice _ c.iter.ensures.rest) (λ x b q k. search rules)
