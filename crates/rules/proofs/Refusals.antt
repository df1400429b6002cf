-- What an ordered list of refusals answers. Assumes nothing.
use Prim.Native.Nat.{ℕ, zero, suc}
use mathlib.Core.Path.{◌≡◌, refl}
use mathlib.Core.Bool.{Bool, true, false}
use mathlib.Core.List.{List, [], ◌∷◌}
use lib.ListN.{length}
use Rattle.places.proofs.Tests.{if_elim}
use Rattle.rules.specs.Types.{Reply}
use Rattle.rules.specs.Pages.{Pages}
use Rattle.rules.specs.Calls.{After, Check, unchanged, unless}

-- ## The whole list

-- no check applies
abbrev pub Passed : List Check → Type 0
Passed [] = Unit {0}
Passed (c ∷ cs) = (c.test ≡ false) × Passed cs

pub passed : (b : Pages) (u : List ℕ) (cs : List Check) (d : After) → Passed cs → d ≡ unless b u cs d
unfolding unless
passed b u [] d p = refl
passed b u (c ∷ cs) d p = rw p.0 (passed b u cs d p.1)

-- the first k checks do not apply, and the next one does
abbrev pub Stops : ℕ → List Check → Reply → Type 0
Stops k [] r = ⊥
Stops zero (c ∷ cs) r = (c.test ≡ true) × (c.answer ≡ r)
Stops (suc k) (c ∷ cs) r = (c.test ≡ false) × Stops k cs r

pub refused-at : (k : ℕ) (b : Pages) (u : List ℕ) (cs : List Check) (d : After) (r : Reply) → Stops k cs r → unchanged b u r ≡ unless b u cs d
unfolding unless
refused-at k b u [] d r h = absurd h
refused-at zero b u (c ∷ cs) d r h = rw (h.0, h.1)
refused-at (suc k) b u (c ∷ cs) d r h = rw h.0 (refused-at k b u cs d r h.1)

-- every answer of the list is of this sort
abbrev pub Answers : (Reply → Type 0) → List Check → Type 0
Answers Q [] = Unit {0}
Answers Q (c ∷ cs) = Q c.answer × Answers Q cs

-- what holds of every refusal, and of what is done where none applies, holds of the call
pub unless_elim : (Q : Reply → Type 0) (P : After → Type 0) (b : Pages) (u : List ℕ) (cs : List Check) (d : After) → Answers Q cs
    → ((r : Reply) → Q r → P (unchanged b u r)) → (Passed cs → P d) → P (unless b u cs d)
unfolding unless
unless_elim Q P b u [] d h f g = g tt
unless_elim Q P b u (c ∷ cs) d h f g = if_elim P c.test _ _ (λ e. f c.answer h.0) (λ e. unless_elim Q P b u cs d h.1 f (λ p. g (e, p)))

-- ## One check at a time: a proof of code grows `Clear` by `next` at each check that passes, and leaves by `refused_by` or `done`

-- the first k checks do not apply
abbrev pub Clear : ℕ → List Check → Type 0
Clear zero cs = Unit {0}
Clear (suc k) [] = ⊥
Clear (suc k) (c ∷ cs) = (c.test ≡ false) × Clear k cs

-- the test of check k is t, and its answer r
abbrev pub Test : ℕ → List Check → Bool → Type 0
Test k [] t = ⊥
Test zero (c ∷ cs) t = c.test ≡ t
Test (suc k) (c ∷ cs) t = Test k cs t

abbrev pub Says : ℕ → List Check → Reply → Type 0
Says k [] r = ⊥
Says zero (c ∷ cs) r = c.answer ≡ r
Says (suc k) (c ∷ cs) r = Says k cs r

pub next : (k : ℕ) (cs : List Check) → Clear k cs → Test k cs false → Clear (suc k) cs
next k [] h t = t
next zero (c ∷ cs) h t = (t, tt)
next (suc k) (c ∷ cs) h t = (h.0, next k cs h.1 t)

pub refused_by : (k : ℕ) (b : Pages) (u : List ℕ) (cs : List Check) (d : After) (r : Reply) → Clear k cs → Test k cs true → Says k cs r
    → unchanged b u r ≡ unless b u cs d
unfolding unless
refused_by k b u [] d r h t s = absurd t
refused_by zero b u (c ∷ cs) d r h t s = rw (t, s)
refused_by (suc k) b u (c ∷ cs) d r h t s = rw h.0 (refused_by k b u cs d r h.1 t s)

pub done : (b : Pages) (u : List ℕ) (cs : List Check) (d : After) → Clear (length cs) cs → d ≡ unless b u cs d
unfolding unless
done b u [] d h = refl
done b u (c ∷ cs) d h = rw h.0 (done b u cs d h.1)
