-- The words that the rules are written in: places in a list of any length and any element.
use Rattle.std.specs.Prelude.{ℕ, suc, ◌≡◌, Bool, true, false, List, [], ◌∷◌, get_or, set, if◌then◌else◌}
use Rattle.places.specs.Types.{Option, Some, None, Verdict, Passed, Failed}

-- ## What a check's answer says of a refusal's test

-- a look-up found no place
abbrev pub missing : Option ℕ → Bool
missing (Some i) = false
missing None = true

-- a check did not pass
abbrev pub failed : Verdict → Bool
failed Passed = false
failed Failed = true

-- ## Places

-- the same place, seen from one place further left
abbrev pub next : Option ℕ → Option ℕ
next (Some i) = Some (suc i)
next None = None

-- the first of two places that there is
abbrev pub or_else : Option ℕ → Option ℕ → Option ℕ
or_else (Some i) g = Some i
or_else None g = g

module _ {A : Type 0} where
  -- the lowest place whose content passes the test
  unfoldable pub first : (A → Bool) → List A → Option ℕ
  first p [] = None
  first p (x ∷ xs) = if p x then Some 0 else next (first p xs)

  -- what a place holds; d where there is none
  unfoldable pub at : A → Option ℕ → List A → A
  at d (Some i) l = get_or l i d
  at d None l = d

  -- x in that place
  unfoldable pub put : Option ℕ → A → List A → List A
  put (Some i) x l = set l i x
  put None x l = l

  -- x in each place whose content passes the test
  unfoldable pub put_all : (A → Bool) → A → List A → List A
  put_all p x [] = []
  put_all p x (y ∷ ys) = (if p y then x else y) ∷ put_all p x ys

-- no two places hold one name; `is n` tests for the name n, and d stands outside the list
unfoldable pub Unique : {A N : Type 0} → (N → A → Bool) → A → List A → Type 0
Unique {N} is d l = (n : N) (i j : ℕ) → is n (get_or l i d) ≡ true → is n (get_or l j d) ≡ true → i ≡ j

-- a place that is not held holds d
unfoldable pub Clean : {A : Type 0} → (A → Bool) → A → List A → Type 0
Clean held d l = (j : ℕ) → held (get_or l j d) ≡ false → get_or l j d ≡ d

-- `unfolding all_words` opens them all
unfoldable pub all_words : Type 0
unfolding first at put put_all Unique Clean
all_words = Unit {0}
