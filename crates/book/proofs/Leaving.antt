-- A walk that puts x in each place that passes a test. Assumes nothing.
use Prim.Native.Nat.{ℕ, zero, suc, ◌<◌}
use native.Mathlib.Omega.{arith}
use mathlib.Core.Path.{◌≡◌, refl, ap}
use mathlib.Core.Bool.{Bool, true, false}
use mathlib.Core.List.{List, [], ◌∷◌}
use Rattle.std.specs.Prelude.{if◌then◌else◌}
use lib.ListN.{length, get_or, set}
use Rattle.places.specs.Words.{first, next, put_all}
use Rattle.book.specs.Types.{Some, None}

module _ {A : Type 0} (p : A → Bool) (x : A) where
  -- as far as a place
  unfoldable pub upto : ℕ → List A → List A
  upto zero l = l
  upto (suc n) [] = []
  upto (suc n) (y ∷ ys) = (if p y then x else y) ∷ upto n ys

  pub upto_here : (n : ℕ) (l : List A) (d : A) → get_or (upto n l) n d ≡ get_or l n d
  unfolding upto
  upto_here zero l d = refl
  upto_here (suc n) [] d = refl
  upto_here (suc n) (y ∷ ys) d = upto_here n ys d

  pub upto_next : (n m : ℕ) (l : List A) (d : A) → m ≡ suc n → n < length l → upto m l ≡ set (upto n l) n (if p (get_or l n d) then x else get_or l n d)
  unfolding upto
  upto_next n m [] d q b = absurd (omega (arith, b))
  upto_next zero m (y ∷ ys) d q b = rw q refl
  upto_next (suc n) m (y ∷ ys) d q b = rw q (ap (λ (l : List A). (if p y then x else y) ∷ l) (upto_next n (suc n) ys d refl (omega (arith, b))))

  pub upto_all : (l : List A) → upto (length l) l ≡ put_all p x l
  unfolding put_all upto
  upto_all [] = refl
  upto_all (y ∷ ys) = ap (λ (l : List A). (if p y then x else y) ∷ l) (upto_all ys)

  -- where x fails the test, none passes it any more
  pub none_left : p x ≡ false → (l : List A) → first p (put_all p x l) ≡ None
  unfolding first put_all
  none_left h [] = refl
  none_left h (y ∷ ys) = go (p y) refl (none_left h ys)
    where
      go : (t : Bool) → p y ≡ t → first p (put_all p x ys) ≡ None → (if p (if t then x else y) then Some 0 else next (first p (put_all p x ys))) ≡ None
      go true e k = rw (h, k)
      go false e k = rw (e, k)
