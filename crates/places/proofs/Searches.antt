-- What `position` and `any` answer, in the words of the rules. Assumes nothing.
use Prim.Native.Nat.{ℕ}
use mathlib.Core.Path.{◌≡◌, refl, ap, ◌∙◌}
use mathlib.Core.Bool.{Bool, true, false, not, ◌||◌}
use mathlib.Core.List.{List, [], ◌∷◌}
use lib.ListN.{length}
use denote.Param.Members.{Mut}
use Rattle.std.specs.Prelude.{Option, Some, None, MatchOption, if◌then◌else◌}
use Rattle.std.specs.Fn.{Called}
use Rattle.std.specs.List.{FoldsTo, list_any}
use Rattle.std.specs.Iterator.{YieldsThen}
use Rattle.std.proofs.lemmas.Iterator.{YieldsList}
use Rattle.std.proofs.lemmas.Iterator.Search.{position_from_yields_List, any_from_yields_List}
use Rattle.places.specs.Words.{first, next, missing}
use Rattle.places.proofs.Walks.{first_position}

missing-next : (w : Option ℕ) → missing w ≡ missing (next w)
missing-next (Some i) = refl
missing-next None = refl

any_first : {B : Type 0} (p : B → Bool) (l : List B) → list_any p l ≡ not (missing (first p l))
unfolding first
any_first p [] = refl
any_first p (x ∷ xs) = go (p x) (any_first p xs)
  where
    go : (t : Bool) → list_any p xs ≡ not (missing (first p xs)) → (t || list_any p xs) ≡ not (missing (if t then Some 0 else next (first p xs)))
    go true h = refl
    go false h = h ∙ ap not (missing-next (first p xs))

-- over what an iterator yields, with a closure that tests each item as p does
module _ {S A B F : Type 0} {steps : S → Option A → S → Type 0} {v : A → B} {g : Mut F (A × Unit {0}) Bool} {s : S} {all : List B}
    (p : B → Bool) (u : S) (f : F) where
  pub first_walked : (r : Option ℕ)
      → (xs : List A) × (o : Option A) × (j : F) × YieldsThen steps s xs o u × FoldsTo (λ p x q. Called g p (x, tt) false q) f xs j
      × MatchOption o (r ≡ None) (λ x. (r ≡ Some (length xs)) × ((h : F) × Called g j (x, tt) true h))
      → YieldsList steps v s all → ((x : A) (b : Bool) (q : F) → Called g f (x, tt) b q → (q ≡ f) × (b ≡ p (v x))) → r ≡ first p all
  first_walked r ran y k = position_from_yields_List p u f r ran y k ∙ first_position p all

  pub any_walked : (r : Bool)
      → (xs : List A) × (o : Option A) × (j : F) × YieldsThen steps s xs o u × FoldsTo (λ p x q. Called g p (x, tt) false q) f xs j
      × MatchOption o (r ≡ false) (λ x. (r ≡ true) × ((h : F) × Called g j (x, tt) true h))
      → YieldsList steps v s all → ((x : A) (b : Bool) (q : F) → Called g f (x, tt) b q → (q ≡ f) × (b ≡ p (v x))) → r ≡ not (missing (first p all))
  any_walked r ran y k = any_from_yields_List p u f r ran y k ∙ any_first p all
