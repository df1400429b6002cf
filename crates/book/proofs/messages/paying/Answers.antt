use Rattle.std.proofs.Common.{rules}
use Rattle.std.proofs.lemmas.Iterator.{YieldsList-from_slice}
use Rattle.book.specs.Choices.{pays}
use Rattle.places.proofs.Searches.{first_walked}
use Rattle.book.proofs.messages.paying.Goals as goal

pub returns : goal.returns
returns c = first_walked (λ r. pays c.args.message c.args.replay c.args.purse r) _ _ _ c.position.ensures.ran (YieldsList-from_slice _ c.iter.ensures.rest) (λ x b q k. search rules)
