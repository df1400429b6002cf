-- What a search of places finds, and what stands there, for any element and any length. Assumes nothing.
use Prim.Native.Nat.{ℕ, zero, suc, ◌+◌, ◌<◌, ◌≤◌}
use native.Mathlib.Numerals.{add-one}
use native.Mathlib.Omega.{arith}
use mathlib.Core.Path.{◌≡◌, refl, ap, ◌∙◌, sym}
use mathlib.Core.Bool.{Bool, true, false}
use mathlib.Core.List.{List, [], ◌∷◌, map}
use lib.ListN.{length, get_or, set, take}
use lib.Seq.{take-suc, take-suc-set, take_all, get_or-set_same}
use Rattle.places.specs.Types.{Option, Some, None}
use Rattle.std.specs.Prelude.{if◌then◌else◌, cond, position, option_map}
use Rattle.std.specs.List.{position_from}
use Rattle.std.proofs.lemmas.List.{get_or_past, set_past}
use Rattle.std.proofs.lemmas.Iterator.Adapters.{position_from-zero}
use Rattle.places.specs.Words.{next, first, at, put, put_all, or_else}

-- a place counted from i
abbrev pub past : ℕ → Option ℕ → Option ℕ
past i w = option_map (λ j. i + j) w

pub past_next : (i : ℕ) (w : Option ℕ) → past (suc i) w ≡ past i (next w)
past_next i (Some j) = ap Some (omega arith)
past_next i None = refl

pub past_zero : (w : Option ℕ) → past 0 w ≡ w
past_zero (Some j) = ap Some (omega arith)
past_zero None = refl

module _ {A : Type 0} (p : A → Bool) where
  from_place : (i : ℕ) (xs : List A) → position_from p i xs ≡ past i (first p xs)
  unfolding first
  from_place i [] = refl
  from_place i (x ∷ xs) = go (p x) (from_place (i + 1) xs)
    where
      go : (t : Bool) → position_from p (i + 1) xs ≡ past (i + 1) (first p xs)
          → cond t (Some i) (position_from p (i + 1) xs) ≡ past i (if t then Some 0 else next (first p xs))
      go true h = ap Some (omega arith)
      go false h = h ∙ rw add-one (past_next i (first p xs))

  -- it is what `position` of std answers
  pub first_position : (xs : List A) → position p xs ≡ first p xs
  first_position xs = position_from-zero p xs ∙ from_place 0 xs ∙ past_zero (first p xs)

module _ {A : Type 0} where
  -- in range, the default does not matter
  pub at_in : (l : List A) (i : ℕ) (d e : A) → i < length l → get_or l i e ≡ at d (Some i) l
  unfolding at
  at_in [] i d e h = absurd (omega arith)
  at_in (x ∷ xs) zero d e h = refl
  at_in (x ∷ xs) (suc i) d e h = at_in xs i d e (omega arith)

  pub at_out : (l : List A) (i : ℕ) (d : A) → length l ≤ i → d ≡ at d (Some i) l
  unfolding at
  at_out l i d h = sym (get_or_past l i d h)

  pub put_out : (l : List A) (i : ℕ) (x : A) → length l ≤ i → l ≡ put (Some i) x l
  unfolding put
  put_out l i x h = sym (set_past l i x h)

-- One element more of a list is copied.
pub copied_more : {A : Type 0} (from to : List A) (i : ℕ) (d : A) → i < length from → i < length to → take i to ≡ take i from
    → take (i + 1) (set to i (get_or from i d)) ≡ take (i + 1) from
copied_more from to i d h k e = rw (add-one, take-suc-set to i (get_or from i d) k, take-suc from i d h, e)

pub copied_all : {A : Type 0} (from to : List A) (i : ℕ) → length from ≤ i → length to ≤ i → take i to ≡ take i from → to ≡ from
copied_all from to i h k e = sym (take_all i to k) ∙ e ∙ take_all i from h

-- To put x in each place that passes is to map.
pub put_all_map : {A : Type 0} (p : A → Bool) (x : A) (l : List A) → map (λ y. if p y then x else y) l ≡ put_all p x l
unfolding put_all
put_all_map p x [] = refl
put_all_map {A = A} p x (y ∷ ys) = ap (λ (l : List A). (if p y then x else y) ∷ l) (put_all_map p x ys)

-- ## A place that is found is a place of the list

next_in : (n : ℕ) (w : Option ℕ) (k : ℕ) → ((j : ℕ) → w ≡ Some j → j < n) → next w ≡ Some k → k < suc n
next_in n (Some j) k h e = let q : suc j ≡ k = cc in let l = h j refl in omega arith
next_in n None k h e = cc

pub first_in : {A : Type 0} (p : A → Bool) (l : List A) (k : ℕ) → first p l ≡ Some k → k < length l
unfolding first
first_in p [] k e = cc
first_in p (x ∷ xs) k e = go (p x) (λ j. first_in p xs j) e
  where
    go : (t : Bool) → ((j : ℕ) → first p xs ≡ Some j → j < length xs) → (if t then Some 0 else next (first p xs)) ≡ Some k → k < suc (length xs)
    go true h e = let q : 0 ≡ k = cc in omega arith
    go false h e = next_in (length xs) (first p xs) k h e

pub room_in : {A : Type 0} (p q : A → Bool) (l : List A) (k : ℕ) → or_else (first p l) (first q l) ≡ Some k → k < length l
room_in p q l k e = go (first p l) (first_in p l k) e
  where
    go : (w : Option ℕ) → (w ≡ Some k → k < length l) → or_else w (first q l) ≡ Some k → k < length l
    go (Some i) h e = h e
    go None h e = first_in q l k e

pub put_same : {A : Type 0} (l : List A) (k : ℕ) (x d : A) → k < length l → at d (Some k) (put (Some k) x l) ≡ x
unfolding at put
put_same l k x d h = get_or-set_same l k x d h
