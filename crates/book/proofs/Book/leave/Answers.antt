-- The key stays where the ID has a right; a place that was found is a place of the list.
use Rattle.std.proofs.Common.{◌≡◌, refl, not, sym, ◌∙◌, rules, arith}
use borrow.Author.Tests.{not-true, not-false}
use Rattle.std.proofs.lemmas.Iterator.{YieldsList-from_slice}
use Rattle.places.specs.Words.{first, missing, put}
use Rattle.places.proofs.Searches.{any_walked}
use Rattle.figures.specs.Names.{no_id}
use Rattle.figures.specs.Keys.{free_key}
use Rattle.figures.specs.Rights.{is_of}
use Rattle.rules.specs.Pages.{key_at}
use Rattle.rules.specs.Deletions.{left}
use Rattle.rules.proofs.InPlace.{key_inside}
use Rattle.book.specs.Pages.{pages}
use Rattle.book.proofs.Book.leave.Goals.{After-any}
use Rattle.book.proofs.Book.leave.Goals as goal

-- whether the ID has a right, by the rules
has : (c : After-any) → c.any.result ≡ not (missing (first (λ r. is_of c.args.id r) c.args.self.now.rights))
has c = any_walked (λ r. is_of c.args.id r) _ _ _ c.any.ensures.ran (YieldsList-from_slice _ c.iter.ensures.rest) (λ x b q k. search rules)

pub returns-then-any : goal.returns-then-any
unfolding left
returns-then-any c = rw (not-true _ (sym (has (goal.at.returns-then-any c).After-any) ∙ c.if-any.true)) refl

pub offset_bounds-self-place : goal.offset_bounds-self-place
unfolding key_at
offset_bounds-self-place c = omega (arith, key_inside (pages c.args.self.now) c.args.id _ (sym c.in-Some.ensures))

pub bounds-self-place : goal.bounds-self-place
unfolding key_at
bounds-self-place c = omega (arith, key_inside (pages c.args.self.now) c.args.id _ (sym c.in-Some.ensures))

pub returns-in-Some : goal.returns-in-Some
unfolding left key_at put free_key no_id
returns-in-Some c = rw (not-false _ (sym (has (goal.at.returns-in-Some c).After-any) ∙ c.if-any.false), ← c.in-Some.ensures) refl
