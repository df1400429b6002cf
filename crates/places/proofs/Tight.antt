-- Each promise of a public function has one outcome: two that it allows coincide. It is stated of the promises themselves. Assumes nothing.
use mathlib.Core.Path.{◌≡◌, refl, sym, ◌∙◌}
use contract.Lifetimes.{Lfts}
use Rattle.places.specs.Words.{failed}
use Rattle.places.specs.Types.{Verdict, Passed, Failed}
use Rattle.places.proofs.Verdict.unless.Reads as Verdict-unless
use Rattle.places.proofs.Lists.{clash}

-- a verdict is what it says of a refusal's test
pub verdict_once : (v w : Verdict) → failed v ≡ failed w → v ≡ w
verdict_once Passed Passed e = refl
verdict_once Passed Failed e = clash e refl
verdict_once Failed Passed e = clash refl e
verdict_once Failed Failed e = refl

pub Verdict-unless_once : (κs : Lfts 0) (a : _) (r r' : _) (s s' : _) → Verdict-unless.Post κs a r s → Verdict-unless.Post κs a r' s' → r ≡ r'
Verdict-unless_once κs a r r' s s' p q = verdict_once r r' (p ∙ sym q)
