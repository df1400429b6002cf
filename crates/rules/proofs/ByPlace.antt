-- What puts and searches leave, place by place. Assumes nothing.
use Prim.Native.Nat.{ℕ, ◌<◌}
use mathlib.Core.Path.{◌≡◌, refl, ◌∙◌, subst}
use mathlib.Core.Bool.{Bool, true, false, not}
use mathlib.Core.List.{List}
use lib.ListN.{length, get_or}
use borrow.Author.Tests.{not-true, not-false}
use Rattle.places.specs.Words.{first, at, put, put_all, or_else, Unique}
use Rattle.places.proofs.Lists.{clash, Hit, first_hit, first-at, first-none, first_lowest, put_elim, put_cases, put_all_elim, keep_put_all, length-put, length-put_all, unique_first}
use Rattle.figures.specs.Keys.{free_key, is_key}
use Rattle.figures.specs.Rights.{free_right, is_right}
use Rattle.figures.proofs.Naming.{is_key-free, is_right-free}
use Rattle.rules.specs.Types.{RightName, Option, Some, None, KeyId}
use Rattle.rules.specs.Pages.{Pages, key_at, right_at, key_in, right_in, free_key_at, free_right_at}
use Rattle.rules.specs.OneCall.{OnlyAt, Gone, Takes, its_own, lowest_free}

module _ {A : Type 0} (d : A) (l : List A) where
  pub only_put : (k : ℕ) (x : A) → OnlyAt d k l (put (Some k) x l)
  only_put k x = record {
    long = length-put (Some k) x l;
    others = λ j ne. put_elim (λ y. y ≡ get_or l j d) d (Some k) x l j (λ e. absurd (ne (cc))) refl;
  }

  pub gone_put_all : (is : A → Bool) → Gone is d l (put_all is d l)
  gone_put_all is = record {
    long = length-put_all is d l;
    gone = λ j h. put_all_elim (λ y. y ≡ d) d is l j refl (λ e. clash h e);
    others = λ j. keep_put_all is d l j;
  }

  pub gone_put : {N : Type 0} (is : N → A → Bool) → Unique is d l → (n : N) → is n d ≡ false → Gone (is n) d l (put (first (is n) l) d l)
  gone_put is u n free = record {
    long = length-put (first (is n) l) d l;
    gone = λ j h. put_cases (λ y. y ≡ d) d (first (is n) l) d l j refl (λ e. refl) (λ f. absurd (f (unique_first is d l u n free j h)));
    others = λ j h. put_elim (λ y. y ≡ get_or l j d) d (first (is n) l) d l j (λ e. clash (first-at (is n) d free l e).1 h) refl;
  }

  free_found : (held : A → Bool) (k : ℕ) → first (λ x. not (held x)) l ≡ Some k → (k < length l) × (held (get_or l k d) ≡ false)
  free_found held k e = let h = subst (Hit (λ x. not (held x)) d l) e (first_hit (λ x. not (held x)) d l) in (h.0, not-true _ h.1)

  pub takes : (is held : A → Bool) → is d ≡ false → (k : ℕ) → or_else (first is l) (first (λ x. not (held x)) l) ≡ Some k → Takes is held d l k
  takes is held free k = go (first is l) refl
    where
      go : (w : Option ℕ) → first is l ≡ w → or_else w (first (λ x. not (held x)) l) ≡ Some k → Takes is held d l k
      go (Some j) e q = let h = first-at is d free l (e ∙ q) in its_own h.0 h.1
      go None e q =
          let h = free_found held k q in
          lowest_free h.0 (first-none is d free l e) h.1 (λ j g. not-false _ (first_lowest (λ x. not (held x)) d l q j g))

pub takes_in : {A : Type 0} {is held : A → Bool} {d : A} {l : List A} {k : ℕ} → Takes is held d l k → k < length l
takes_in (its_own h e) = h
takes_in (lowest_free h e f g) = h

-- a key and a right that are found are in their places
module _ (b : Pages) (i : KeyId) (k : ℕ) (e : key_at b i ≡ Some k) where
  pub key_found : (k < length b.keys) × (is_key i (key_in b (Some k)) ≡ true)
  unfolding key_at key_in at
  key_found = first-at (λ x. is_key i x) free_key (is_key-free i) b.keys e

module _ (b : Pages) (n : RightName) (p : ℕ) (e : right_at b n ≡ Some p) where
  pub right_found : (p < length b.rights) × (is_right n (right_in b (Some p)) ≡ true)
  unfolding right_at right_in at
  right_found = first-at (λ r. is_right n r) free_right (is_right-free n) b.rights e

-- a free place that is found is free
pub free_key_found : (b : Pages) (k : ℕ) → free_key_at b ≡ Some k → (key_in b (Some k)).held ≡ false
unfolding free_key_at key_in at
free_key_found b k e = (free_found free_key b.keys (λ x. x.held) k e).1

pub free_right_found : (b : Pages) (p : ℕ) → free_right_at b ≡ Some p → (right_in b (Some p)).held ≡ false
unfolding free_right_at right_in at
free_right_found b p e = (free_found free_right b.rights (λ r. r.held) p e).1
