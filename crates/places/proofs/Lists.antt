-- Laws of the words on lists, over any type of content and any length.
-- Assumes nothing.
use Prim.Native.Nat.{ℕ, zero, suc, ◌<◌, suc-le-suc}
use native.Mathlib.Nat.{le_of_suc-le-suc, not-suc-le-zero}
use native.Mathlib.Omega.{arith}
use mathlib.Core.Logic.{◌⊎◌, inl, inr}
use mathlib.Core.Path.{◌≡◌, refl, ap, ◌∙◌, sym, subst}
use mathlib.Core.Bool.{Bool, true, false, true≢false}
use mathlib.Core.List.{List, [], ◌∷◌, map}
use lib.ListN.{length, get_or, set, get_or-map, length-set, replicate}
use lib.Seq.{get_or-set_same}
use Rattle.places.specs.Types.{Option, Some, None}
use Rattle.std.specs.Prelude.{if◌then◌else◌}
use Rattle.places.specs.Words.{all_words, first, at, put, put_all, or_else, missing, next, Unique, Clean}

module _ {A B : Type 0} (f : A → B) where
  pub if_map : (t : Bool) (x y : A) → (if t then f x else f y) ≡ f (if t then x else y)
  unfolding all_words
  if_map true x y = refl
  if_map false x y = refl

  pub first-map : (p : B → Bool) (l : List A) → first p (map f l) ≡ first (λ x. p (f x)) l
  unfolding all_words
  first-map p [] = refl
  first-map p (x ∷ xs) = rw (first-map p xs)

  pub set-map : (l : List A) (i : ℕ) (x : A) → set (map f l) i (f x) ≡ map f (set l i x)
  unfolding all_words
  set-map [] i x = refl
  set-map (y ∷ ys) zero x = refl
  set-map (y ∷ ys) (suc i) x = ap (λ (l : List B). f y ∷ l) (set-map ys i x)

  pub put_map : (w : Option ℕ) (x : A) (l : List A) → put w (f x) (map f l) ≡ map f (put w x l)
  unfolding all_words
  put_map (Some i) x l = set-map l i x
  put_map None x l = refl

  pub at_map : (d : A) (w : Option ℕ) (l : List A) → at (f d) w (map f l) ≡ f (at d w l)
  unfolding all_words
  at_map d (Some i) l = get_or-map f l i d
  at_map d None l = refl

pub if_same : {A : Type 0} (t : Bool) (x : A) → (if t then x else x) ≡ x
unfolding all_words
if_same true x = refl
if_same false x = refl

-- ## A test, by its two cases

pub by_test : (t : Bool) → (t ≡ true) ⊎ (t ≡ false)
unfolding all_words
by_test true = inl refl
by_test false = inr refl

pub clash : {C : Type 0} {t : Bool} → t ≡ true → t ≡ false → C
unfolding all_words
clash {C} p q = absurd (true≢false (sym p ∙ q))

-- ## The first place that passes a test

-- what the search found: a place that passes, or that none does
abbrev pub Good : {A : Type 0} → (A → Bool) → A → List A → Option ℕ → Type 0
Good p d l (Some j) = (j < length l) × (p (get_or l j d) ≡ true)
Good p d l None = (j : ℕ) → p (get_or l j d) ≡ false

abbrev pub Hit : {A : Type 0} → (A → Bool) → A → List A → Option ℕ → Type 0
Hit p d l (Some j) = (j < length l) × (p (get_or l j d) ≡ true)
Hit p d l None = Unit {0}

module _ {A : Type 0} (p : A → Bool) (d : A) where
  hit_cons : (x : A) (xs : List A) (t : Bool) → p x ≡ t → (w : Option ℕ) → Hit p d xs w → Hit p d (x ∷ xs) (if t then Some 0 else next w)
  hit_cons x xs true e w g = (omega arith, e)
  hit_cons x xs false e (Some j) g = (suc-le-suc g.0, g.1)
  hit_cons x xs false e None g = tt

  pub first_hit : (l : List A) → Hit p d l (first p l)
  unfolding all_words
  first_hit [] = tt
  first_hit (x ∷ xs) = hit_cons x xs (p x) refl (first p xs) (first_hit xs)

module _ {A : Type 0} (p : A → Bool) (d : A) (free : p d ≡ false) where
  good_cons : (x : A) (xs : List A) (t : Bool) → p x ≡ t → (w : Option ℕ) → Good p d xs w → Good p d (x ∷ xs) (if t then Some 0 else next w)
  unfolding all_words
  good_cons x xs true e w g = (omega arith, e)
  good_cons x xs false e (Some j) g = (suc-le-suc g.0, g.1)
  good_cons x xs false e None g = elim [ zero ↦ e | suc j ↦ g j ]

  pub first_good : (l : List A) → Good p d l (first p l)
  unfolding all_words
  first_good [] = λ j. free
  first_good (x ∷ xs) = good_cons x xs (p x) refl (first p xs) (first_good xs)

  pub first-at : (l : List A) {j : ℕ} → first p l ≡ Some j → (j < length l) × (p (get_or l j d) ≡ true)
  unfolding all_words
  first-at l h = subst (Good p d l) h (first_good l)

  pub first-none : (l : List A) → first p l ≡ None → (j : ℕ) → p (get_or l j d) ≡ false
  unfolding all_words
  first-none l h = subst (Good p d l) h (first_good l)

  pub has : (l : List A) (j : ℕ) → p (get_or l j d) ≡ true → missing (first p l) ≡ false
  unfolding all_words
  has l j h = go (first p l) (first_good l)
    where
      go : (w : Option ℕ) → Good p d l w → missing w ≡ false
      go (Some k) g = refl
      go None g = clash h (g j)

  pub has_not : (l : List A) → ((j : ℕ) → p (get_or l j d) ≡ false) → missing (first p l) ≡ true
  unfolding all_words
  has_not l h = go (first p l) (first_good l)
    where
      go : (w : Option ℕ) → Good p d l w → missing w ≡ true
      go (Some k) g = clash g.1 (h k)
      go None g = refl

-- no place below the one found passes
abbrev Lowest : {A : Type 0} → (A → Bool) → A → List A → Option ℕ → Type 0
Lowest p d l (Some k) = (j : ℕ) → j < k → p (get_or l j d) ≡ false
Lowest p d l None = Unit {0}

module _ {A : Type 0} (p : A → Bool) (d : A) where
  lowest_cons : (x : A) (xs : List A) (t : Bool) → p x ≡ t → (w : Option ℕ) → Lowest p d xs w → Lowest p d (x ∷ xs) (if t then Some 0 else next w)
  lowest_cons x xs true e w g = λ j h. absurd (not-suc-le-zero h)
  lowest_cons x xs false e (Some k) g = elim [ zero ↦ λ h. e | suc j ↦ λ h. g j (le_of_suc-le-suc h) ]
  lowest_cons x xs false e None g = tt

  lowest : (l : List A) → Lowest p d l (first p l)
  unfolding all_words
  lowest [] = tt
  lowest (x ∷ xs) = lowest_cons x xs (p x) refl (first p xs) (lowest xs)

  pub first_lowest : (l : List A) {k : ℕ} → first p l ≡ Some k → (j : ℕ) → j < k → p (get_or l j d) ≡ false
  first_lowest l h = subst (Lowest p d l) h (lowest l)

pub present : (w : Option ℕ) → missing w ≡ false → (j : ℕ) × (w ≡ Some j)
unfolding all_words
present (Some j) h = (j, refl)
present None h = clash refl h

pub absent : (w : Option ℕ) → missing w ≡ true → w ≡ None
unfolding all_words
absent (Some j) h = clash h refl
absent None h = refl

-- ## What a place holds after a change

module _ {A : Type 0} (P : A → Type 0) (d : A) where
  pub set_elim : (l : List A) (k : ℕ) (x : A) (j : ℕ) → (k ≡ j → P x) → P (get_or l j d) → P (get_or (set l k x) j d)
  unfolding all_words
  set_elim [] k x j f q = q
  set_elim (y ∷ ys) zero x zero f q = f refl
  set_elim (y ∷ ys) zero x (suc j) f q = q
  set_elim (y ∷ ys) (suc k) x zero f q = q
  set_elim (y ∷ ys) (suc k) x (suc j) f q = set_elim ys k x j (λ e. f (ap suc e)) q

  pub put_elim : (w : Option ℕ) (x : A) (l : List A) (j : ℕ) → (w ≡ Some j → P x) → P (get_or l j d) → P (get_or (put w x l) j d)
  unfolding all_words
  put_elim (Some k) x l j f q = set_elim l k x j (λ e. f (ap Some e)) q
  put_elim None x l j f q = q

  pub set_cases : (l : List A) (k : ℕ) (x : A) (j : ℕ) → P d → (k ≡ j → P x) → ((k ≡ j → ⊥) → P (get_or l j d)) → P (get_or (set l k x) j d)
  set_cases [] k x j o g f = o
  set_cases (y ∷ ys) zero x zero o g f = g refl
  set_cases (y ∷ ys) zero x (suc j) o g f = f (λ e. omega arith)
  set_cases (y ∷ ys) (suc k) x zero o g f = f (λ e. omega arith)
  set_cases (y ∷ ys) (suc k) x (suc j) o g f = set_cases ys k x j o (λ e. g (ap suc e)) (λ e. f (λ h. e (omega arith)))

  pub put_cases : (w : Option ℕ) (x : A) (l : List A) (j : ℕ) → P d → (w ≡ Some j → P x) → ((w ≡ Some j → ⊥) → P (get_or l j d)) → P (get_or (put w x l) j d)
  unfolding all_words
  put_cases (Some k) x l j o g f = set_cases l k x j o (λ e. g (ap Some e)) (λ e. f (λ h. e (cc)))
  put_cases None x l j o g f = f (λ h. let z : ◌≡◌ {A = ℕ} 0 1 = cc in omega arith)

  pub put_all_elim : (t : A → Bool) (l : List A) (j : ℕ) → P d → (t (get_or l j d) ≡ false → P (get_or l j d)) → P (get_or (put_all t d l) j d)
  unfolding all_words
  put_all_elim t [] j q f = q
  put_all_elim t (y ∷ ys) zero q f = go (t y) refl
    where
      go : (b : Bool) → t y ≡ b → P (if b then d else y)
      go true e = q
      go false e = f e
  put_all_elim t (y ∷ ys) (suc j) q f = put_all_elim t ys j q f

-- the search after a change: none, if the new content passes as the old did
module _ {A : Type 0} (p : A → Bool) where
  pub first-set : (d : A) (l : List A) (k : ℕ) (x : A) → p x ≡ p (get_or l k d) → first p (set l k x) ≡ first p l
  unfolding all_words
  first-set d [] k x h = refl
  first-set d (y ∷ ys) zero x h = rw h
  first-set d (y ∷ ys) (suc k) x h = rw (first-set d ys k x h)

  pub first-put : (d : A) (w : Option ℕ) (x : A) (l : List A) → p x ≡ p (at d w l) → first p (put w x l) ≡ first p l
  unfolding all_words
  first-put d (Some k) x l h = first-set d l k x h
  first-put d None x l h = refl

  pub first-put_all : (t : A → Bool) (d : A) → ((y : A) → t y ≡ true → p d ≡ p y) → (l : List A) → first p (put_all t d l) ≡ first p l
  unfolding all_words
  first-put_all t d h [] = refl
  first-put_all t d h (y ∷ ys) = rw (first-put_all t d h ys, go (t y) refl)
    where
      go : (b : Bool) → t y ≡ b → p (if b then d else y) ≡ p y
      go true e = h y e
      go false e = refl

  pub has_set : (l : List A) (k : ℕ) (x : A) → k < length l → p x ≡ true → missing (first p (set l k x)) ≡ false
  unfolding all_words
  has_set [] k x r h = absurd (not-suc-le-zero r)
  has_set (y ∷ ys) zero x r h = rw h
  has_set (y ∷ ys) (suc k) x r h = go (p y) (first p (set ys k x)) (has_set ys k x (le_of_suc-le-suc r) h)
    where
      go : (b : Bool) (w : Option ℕ) → missing w ≡ false → missing (if b then Some 0 else next w) ≡ false
      go true w e = refl
      go false (Some j) e = refl
      go false None e = e

-- what stands in the place that a search finds
module _ {A : Type 0} (d : A) (l : List A) (P : A → Type 0) (out : P d) (p : A → Bool) (fp : (y : A) → p y ≡ true → P y) where
  pub first_holds : P (at d (first p l) l)
  unfolding all_words
  first_holds = go (first p l) (first_hit p d l)
    where
      go : (w : Option ℕ) → Hit p d l w → P (at d w l)
      go (Some k) g = fp _ g.1
      go None g = out

  pub room_holds : (q : A → Bool) → ((y : A) → q y ≡ true → P y) → P (at d (or_else (first p l) (first q l)) l)
  unfolding all_words
  room_holds q fq = go (first p l) (first_hit p d l) (first q l) (first_hit q d l)
    where
      go : (w : Option ℕ) → Hit p d l w → (v : Option ℕ) → Hit q d l v → P (at d (or_else w v) l)
      go (Some k) g v h = fp _ g.1
      go None g (Some k) h = fq _ h.1
      go None g None h = out

-- what stands in a place that is found passes
module _ {A : Type 0} (d : A) (l : List A) where
  pub first_sat : (p : A → Bool) → missing (first p l) ≡ false → p (at d (first p l) l) ≡ true
  unfolding all_words
  first_sat p m = go (first p l) (first_hit p d l) m
    where
      go : (w : Option ℕ) → Hit p d l w → missing w ≡ false → p (at d w l) ≡ true
      go (Some k) g m = g.1
      go None g m = clash refl m

  pub at_all : (P : A → Type 0) → P d → ((j : ℕ) → P (get_or l j d)) → (w : Option ℕ) → P (at d w l)
  unfolding all_words
  at_all P o f (Some k) = f k
  at_all P o f None = o

-- a search is the same after a put in a found place, if the new content passes as the old did
module _ {A : Type 0} (p q : A → Bool) (x : A) (h : (y : A) → q y ≡ true → p x ≡ p y) where
  pub first-put-at : (l : List A) → first p (put (first q l) x l) ≡ first p l
  unfolding all_words
  first-put-at l = go (first q l) (first_hit q x l)
    where
      go : (w : Option ℕ) → Hit q x l w → first p (put w x l) ≡ first p l
      go (Some k) g = first-set p x l k x (h _ g.1)
      go None g = refl

pub keep_put_all : {A : Type 0} (t : A → Bool) (d : A) (l : List A) (k : ℕ) → t (get_or l k d) ≡ false → get_or (put_all t d l) k d ≡ get_or l k d
unfolding all_words
keep_put_all t d [] k h = refl
keep_put_all t d (y ∷ ys) zero h = rw h
keep_put_all t d (y ∷ ys) (suc k) h = keep_put_all t d ys k h

-- what a search finds is untouched by a put where neither the old nor the new content passes
module _ {A : Type 0} (p : A → Bool) (d : A) (free : p d ≡ false) where
  pub the_put : (w : Option ℕ) (x : A) (l : List A) → p x ≡ false → p (at d w l) ≡ false
      → (first p (put w x l) ≡ first p l) × (at d (first p (put w x l)) (put w x l) ≡ at d (first p l) l)
  unfolding all_words
  the_put w x l hx hw =
      let e : first p (put w x l) ≡ first p l = first-put p d w x l (hx ∙ sym hw) in
      (e, rw e (go (first p l) (first_good p d free l)))
    where
      go : (v : Option ℕ) → Good p d l v → at d v (put w x l) ≡ at d v l
      go (Some k) g = put_elim (λ y. y ≡ get_or l k d) d w x l k (λ q. clash g.1 (rw q at hw)) refl
      go None g = refl

  pub the_put_all : (t : A → Bool) → ((y : A) → t y ≡ true → p y ≡ false) → (l : List A)
      → (first p (put_all t d l) ≡ first p l) × (at d (first p (put_all t d l)) (put_all t d l) ≡ at d (first p l) l)
  unfolding all_words
  the_put_all t h l =
      let e : first p (put_all t d l) ≡ first p l = first-put_all p t d (λ y q. free ∙ sym (h y q)) l in
      (e, rw e (go (first p l) (first_good p d free l)))
    where
      go : (v : Option ℕ) → Good p d l v → at d v (put_all t d l) ≡ at d v l
      go (Some k) g = keep_put_all t d l k (elim (by_test (t (get_or l k d))) [ inl q ↦ clash g.1 (h _ q) | inr q ↦ q ])
      go None g = refl

-- a found place is in the list, and what is put there is found
module _ {A : Type 0} (l : List A) (p : A → Bool) where
  pub first_put_here : (d x : A) → missing (first p l) ≡ false → at d (first p l) (put (first p l) x l) ≡ x
  unfolding all_words
  first_put_here d x m = go (first p l) (first_hit p d l) m
    where
      go : (w : Option ℕ) → Hit p d l w → missing w ≡ false → at d w (put w x l) ≡ x
      go (Some k) g m = get_or-set_same l k x d g.0
      go None g m = clash refl m

  pub room_put_here : (q : A → Bool) (d x : A) → missing (or_else (first p l) (first q l)) ≡ false
      → at d (or_else (first p l) (first q l)) (put (or_else (first p l) (first q l)) x l) ≡ x
  unfolding all_words
  room_put_here q d x m = go (first p l) (first_hit p d l) (first q l) (first_hit q d l) m
    where
      go : (w : Option ℕ) → Hit p d l w → (v : Option ℕ) → Hit q d l v → missing (or_else w v) ≡ false → at d (or_else w v) (put (or_else w v) x l) ≡ x
      go (Some k) g v h m = get_or-set_same l k x d g.0
      go None g (Some k) h m = get_or-set_same l k x d h.0
      go None g None h m = clash refl m

  pub first_put_has : (t : A → Bool) (x : A) → t x ≡ true → missing (first p l) ≡ false → missing (first t (put (first p l) x l)) ≡ false
  unfolding all_words
  first_put_has t x ht m = go (first p l) (first_hit p x l) m
    where
      go : (w : Option ℕ) → Hit p x l w → missing w ≡ false → missing (first t (put w x l)) ≡ false
      go (Some k) g m = has_set t l k x g.0 ht
      go None g m = clash refl m

  pub room_put_has : (q : A → Bool) (t : A → Bool) (x : A) → t x ≡ true
      → missing (or_else (first p l) (first q l)) ≡ false → missing (first t (put (or_else (first p l) (first q l)) x l)) ≡ false
  unfolding all_words
  room_put_has q t x ht m = go (first p l) (first_hit p x l) (first q l) (first_hit q x l) m
    where
      go : (w : Option ℕ) → Hit p x l w → (v : Option ℕ) → Hit q x l v → missing (or_else w v) ≡ false → missing (first t (put (or_else w v) x l)) ≡ false
      go (Some k) g v h m = has_set t l k x g.0 ht
      go None g (Some k) h m = has_set t l k x h.0 ht
      go None g None h m = clash refl m

module _ {A : Type 0} where
  pub length-put : (w : Option ℕ) (x : A) (l : List A) → length (put w x l) ≡ length l
  unfolding all_words
  length-put (Some k) x l = length-set l k x
  length-put None x l = refl

  pub length-put_all : (t : A → Bool) (x : A) (l : List A) → length (put_all t x l) ≡ length l
  unfolding all_words
  length-put_all t x [] = refl
  length-put_all t x (y ∷ ys) = ap suc (length-put_all t x ys)

module _ {A : Type 0} (held : A → Bool) (d : A) (l : List A) (c : Clean held d l) where
  pub clean_put : (w : Option ℕ) (x : A) → (held x ≡ false → x ≡ d) → Clean held d (put w x l)
  unfolding all_words
  clean_put w x h j = put_elim (λ y. held y ≡ false → y ≡ d) d w x l j (λ e. h) (c j)

  pub clean_put_all : (t : A → Bool) → Clean held d (put_all t d l)
  unfolding all_words
  clean_put_all t j = put_all_elim (λ y. held y ≡ false → y ≡ d) d t l j (λ e. refl) (λ e. c j)

-- ## Names that no two places share

module _ {A N : Type 0} (is : N → A → Bool) (d : A) (l : List A) (u : Unique is d l) where
  pub unique_put : (w : Option ℕ) (x : A) → ((n : N) (j : ℕ) → is n x ≡ true → is n (get_or l j d) ≡ true → w ≡ Some j) → Unique is d (put w x l)
  unfolding all_words
  unique_put w x f n i j =
      put_elim (λ y. is n y ≡ true → is n (get_or (put w x l) j d) ≡ true → i ≡ j) d w x l i
      (λ e hx. put_elim (λ z. is n z ≡ true → i ≡ j) d w x l j (λ e' h. cc) (λ h. same e (f n j hx h)))
      (λ hi. put_elim (λ z. is n z ≡ true → i ≡ j) d w x l j (λ e' h. same (f n i h hi) e') (λ h. u n i j hi h))
    where
      same : {w : Option ℕ} {i j : ℕ} → w ≡ Some i → w ≡ Some j → i ≡ j
      same p q = cc

  pub unique_put_same : ((n : N) → is n d ≡ false) → (w : Option ℕ) (x : A) → ((n : N) → is n x ≡ is n (at d w l)) → Unique is d (put w x l)
  unfolding all_words
  unique_put_same free w x h = unique_put w x (λ n j hx hj. go w n j (sym (h n) ∙ hx) hj)
    where
      go : (v : Option ℕ) (n : N) (j : ℕ) → is n (at d v l) ≡ true → is n (get_or l j d) ≡ true → v ≡ Some j
      go (Some k) n j p q = ap Some (u n k j p q)
      go None n j p q = clash p (free n)

  pub unique_put_all : ((n : N) → is n d ≡ false) → (t : A → Bool) → Unique is d (put_all t d l)
  unfolding all_words
  unique_put_all free t n i j =
      put_all_elim (λ y. is n y ≡ true → is n (get_or (put_all t d l) j d) ≡ true → i ≡ j) d t l i (λ h. clash h (free n))
      (λ e hi. put_all_elim (λ z. is n z ≡ true → i ≡ j) d t l j (λ h. clash h (free n)) (λ e' hj. u n i j hi hj))

  -- the place of a name is where its test passes
  pub unique_first : (n : N) → is n d ≡ false → (j : ℕ) → is n (get_or l j d) ≡ true → first (is n) l ≡ Some j
  unfolding all_words
  unique_first n free j h = go (first (is n) l) (first_good (is n) d free l)
    where
      go : (w : Option ℕ) → Good (is n) d l w → w ≡ Some j
      go (Some k) g = ap Some (u n k j g.1 h)
      go None g = clash h (g j)

pub get_or-blank : {A : Type 0} (n j : ℕ) (d : A) → get_or (replicate n d) j d ≡ d
get_or-blank zero j d = refl
get_or-blank (suc n) zero d = refl
get_or-blank (suc n) (suc j) d = get_or-blank n j d

-- what goes leaves nothing new to find
module _ {A : Type 0} (q : A → Bool) (d : A) (free : q d ≡ false) (l : List A) where
  pub fewer_put : (w : Option ℕ) → missing (first q (put w d l)) ≡ false → missing (first q l) ≡ false
  fewer_put w h = go (present _ h)
    where
      go : (j : ℕ) × (first q (put w d l) ≡ Some j) → missing (first q l) ≡ false
      go (j, e) = put_elim (λ y. q y ≡ true → missing (first q l) ≡ false) d w d l j (λ e' t. clash t free) (has q d free l j) (first-at q d free _ e).1

  pub fewer_put_all : (t : A → Bool) → missing (first q (put_all t d l)) ≡ false → missing (first q l) ≡ false
  fewer_put_all t h = go (present _ h)
    where
      go : (j : ℕ) × (first q (put_all t d l) ≡ Some j) → missing (first q l) ≡ false
      go (j, e) = put_all_elim (λ y. q y ≡ true → missing (first q l) ≡ false) d t l j (λ z. clash z free) (λ e'. has q d free l j) (first-at q d free _ e).1
