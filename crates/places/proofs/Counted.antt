-- Laws of a walk that counts places, which nothing needs since look-ups are the library's; they stand as they were. Assumes nothing.
use Prim.Native.Nat.{ℕ, suc, ◌+◌, ◌<◌, ◌≤◌}
use native.Mathlib.Numerals.{add-one}
use native.Mathlib.Omega.{arith}
use mathlib.Core.Path.{◌≡◌, ap, ◌∙◌, sym}
use mathlib.Core.Bool.{Bool, true, false, not, ◌&&◌}
use mathlib.Core.List.{List}
use lib.ListN.{length, get_or, drop, drop_of_length-le}
use lib.Seq.{drop-cons}
use Rattle.places.specs.Types.{Option, Some, None}
use Rattle.places.specs.Words.{first, missing}
use Rattle.places.proofs.Walks.{past, past_next, past_zero}

module _ {A : Type 0} (p : A → Bool) where
  -- what a walk that stands at place i still has to answer
  unfoldable pub rest : ℕ → List A → Option ℕ
  rest i xs = past i (first p (drop i xs))

  pub rest_start : (xs : List A) → rest 0 xs ≡ first p xs
  unfolding rest
  rest_start xs = past_zero (first p xs)

  pub rest_hit : (xs : List A) (i : ℕ) (d : A) → i < length xs → p (get_or xs i d) ≡ true → rest i xs ≡ Some i
  unfolding rest first
  rest_hit xs i d h e = rw (drop-cons xs i d h, e) (ap Some (omega arith))

  pub rest_miss : (xs : List A) (i : ℕ) (d : A) → i < length xs → p (get_or xs i d) ≡ false → rest (i + 1) xs ≡ rest i xs
  unfolding rest first
  rest_miss xs i d h e = rw (add-one, drop-cons xs i d h, e) (past_next i (first p (drop (suc i) xs)))

  pub rest_end : (xs : List A) (i : ℕ) → length xs ≤ i → rest i xs ≡ None
  unfolding rest first
  rest_end xs i h = rw (drop_of_length-le xs h)

-- ## Two searches in one walk: while one goes on, whether the other found anything is remembered

module _ {A : Type 0} (p : A → Bool) where
  -- at place i, t says whether a place before it passed
  abbrev pub Remembered : List A → ℕ → Bool → Type 0
  Remembered xs i t = missing (first p xs) ≡ (not t && missing (rest p i xs))

  pub remembered_start : (xs : List A) → Remembered xs 0 false
  remembered_start xs = ap missing (sym (rest_start p xs))

  pub remembered_hit : (xs : List A) (i : ℕ) (t : Bool) (d : A) → i < length xs → p (get_or xs i d) ≡ true → Remembered xs i t
      → missing (first p xs) ≡ false
  remembered_hit xs i true d h e r = r
  remembered_hit xs i false d h e r = r ∙ ap missing (rest_hit p xs i d h e)

  pub remembered_miss : (xs : List A) (i : ℕ) (t : Bool) (d : A) → i < length xs → p (get_or xs i d) ≡ false → Remembered xs i t
      → Remembered xs (i + 1) t
  remembered_miss xs i t d h e r = rw (rest_miss p xs i d h e) r

  pub remembered_end : (xs : List A) (i : ℕ) (t : Bool) → length xs ≤ i → Remembered xs i t → missing (first p xs) ≡ not t
  remembered_end xs i true h r = r
  remembered_end xs i false h r = r ∙ ap missing (rest_end p xs i h)
