-- Laws of hexadecimal lines. Assumes nothing.
use mathlib.Core.Path.{◌≡◌, refl, sym, ap, ◌∙◌}
use mathlib.Core.Logic.{⊎_elim}
use mathlib.Core.Bool.{Bool, true, false, ◌&&◌}
use mathlib.Core.List.{List, [], ◌∷◌, ◌++◌, append_assoc}
use Prim.Native.Nat.{ℕ, zero, suc, ◌+◌, ◌*◌, ◌/◌, ◌%◌, ◌≤◌, ◌<◌}
use native.Mathlib.Omega.{arith}
use native.Mathlib.Numerals.{add-one}
use borrow.Author.Tests.{lt-ltb, le-ltb, eq-eqb, ne_eqb}
use lib.Bits.{bit_or}
use lib.Dec.{eqb, ltb}
use lib.ListN.{length, take, drop, get_or, set, length-append, drop_of_length-le}
use lib.Seq.{drop-cons, take-suc, length-take-le}
use Rattle.std.proofs.Math.Bool.{or-true, and_assoc}
use Rattle.std.proofs.lemmas.Bool.{cases_lt}
use Rattle.std.proofs.lemmas.Nat.{or_lt, le_or_l, le_or_r}
use Rattle.std.specs.Prelude.{None, Some}
use Rattle.std.specs.Simd.{first_chunks}
use Rattle.figures.specs.Limits.{line_digits}
use Rattle.lines.specs.Rows.{fronted}
use Rattle.lines.specs.Hex.{digit_value, is_digit, all_digits, pairs, damaged, blank, spelt, decoding, glyph, hexadecimal}
use Rattle.lines.proofs.Stores.{one_set}

-- ## Damaged lines

module _ (l : List ℕ) where
  pub damaged-empty : eqb (length l) 0 ≡ true → damaged l ≡ true
  unfolding damaged
  damaged-empty h = simp h

  pub damaged_odd : length l % 2 ≡ 1 → damaged l ≡ true
  unfolding damaged
  damaged_odd h = simp (eq-eqb (length l % 2) 1 h, or-true)

  pub damaged_long : line_digits < length l → damaged l ≡ true
  unfolding damaged
  damaged_long h = simp (lt-ltb line_digits (length l) h, or-true)

  pub damaged-other : all_digits l ≡ false → damaged l ≡ true
  unfolding damaged
  damaged-other h = simp (h, or-true)

  pub sound : eqb (length l) 0 ≡ false → (length l % 2 ≡ 1 → ⊥) → length l ≤ line_digits → all_digits l ≡ true → damaged l ≡ false
  unfolding damaged
  sound a b c d = simp (a, ne_eqb (length l % 2) 1 b, le-ltb line_digits (length l) c, d)

  pub spells_none : damaged l ≡ true → None ≡ decoding l
  unfolding decoding
  spells_none h = simp h

  pub spells_some : damaged l ≡ false → Some (spelt (pairs l)) ≡ decoding l
  unfolding decoding
  spells_some h = simp h

-- ## Two characters further on

all_two : (l : List ℕ) (i : ℕ) → i + 1 < length l
    → all_digits (drop i l) ≡ (is_digit (get_or l i 0) && (is_digit (get_or l (i + 1) 0) && all_digits (drop (i + 2) l)))
all_two l i h =
    let g : i < length l = omega arith in
    let m : suc i < length l = omega arith in
    let e : i + 1 ≡ suc i = omega arith in
    let f : i + 2 ≡ suc (suc i) = omega arith in
    rw (drop-cons l i 0 g, drop-cons l (suc i) 0 m, e, f)

pub length_pairs : (l : List ℕ) → length (pairs l) ≡ length l / 2
length_pairs [] = refl
length_pairs (a ∷ []) = refl
length_pairs (a ∷ b ∷ l) = let e : length (pairs l) ≡ length l / 2 = length_pairs l in omega arith

pairs-at : (l : List ℕ) (j : ℕ) → 2 * j + 1 < length l
    → get_or (pairs l) j 0 ≡ digit_value (get_or l (2 * j) 0) * 16 + digit_value (get_or l (2 * j + 1) 0)
pairs-at [] j h = absurd (omega arith)
pairs-at (a ∷ []) j h = absurd (omega arith)
pairs-at (a ∷ b ∷ l) zero h = refl
pairs-at (a ∷ b ∷ l) (suc j) h =
    let e : 2 * suc j ≡ suc (suc (2 * j)) = omega arith in
    let f : 2 * suc j + 1 ≡ suc (suc (2 * j + 1)) = omega arith in
    rw (f, e) (pairs-at l j (omega arith))

-- the characters of the pair j
pair-at : (l : List ℕ) (n j : ℕ) (d : List ℕ) → j < n → 2 * j + 1 < length l
    → (get_or (get_or (first_chunks 2 n l) j d) 0 0 ≡ get_or l (2 * j) 0) × (get_or (get_or (first_chunks 2 n l) j d) 1 0 ≡ get_or l (2 * j + 1) 0)
pair-at l zero j d h m = absurd (omega arith)
pair-at [] (suc n) j d h m = absurd (omega arith)
pair-at (a ∷ []) (suc n) j d h m = absurd (omega arith)
pair-at (a ∷ b ∷ l) (suc n) zero d h m = (refl, refl)
pair-at (a ∷ b ∷ l) (suc n) (suc j) d h m =
    let e : 2 * suc j ≡ suc (suc (2 * j)) = omega arith in
    let f : 2 * suc j + 1 ≡ suc (suc (2 * j + 1)) = omega arith in
    rw (f, e) (pair-at l n j d (omega arith) (omega arith))

-- so what a pair of the chunks holds
pub pair_chars : (l : List ℕ) (ps : List (List ℕ)) (n j : ℕ) (d : List ℕ) → ps ≡ first_chunks 2 n l → j < n → 2 * j + 1 < length l
    → (get_or (get_or ps j d) 0 0 ≡ get_or l (2 * j) 0) × (get_or (get_or ps j d) 1 0 ≡ get_or l (2 * j + 1) 0)
pair_chars l ps n j d f h m = rw f (pair-at l n j d h m)

-- two values are of digits where what they have between them is below 16
or_digits : (a b : ℕ) → ltb (bit_or a b) 16 ≡ (ltb a 16 && ltb b 16)
or_digits a b = ⊎_elim first_is none (cases_lt a 16)
  where
    first_is : a < 16 → ltb (bit_or a b) 16 ≡ (ltb a 16 && ltb b 16)
    first_is h =
        ⊎_elim
        (λ g. rw (lt-ltb a 16 h, lt-ltb b 16 g) (lt-ltb (bit_or a b) 16 (or_lt 4 a b h g)))
        (λ g. rw (lt-ltb a 16 h, le-ltb b 16 g) (le-ltb (bit_or a b) 16 (omega (arith, le_or_r a b))))
        (cases_lt b 16)

    none : 16 ≤ a → ltb (bit_or a b) 16 ≡ (ltb a 16 && ltb b 16)
    none h = rw (le-ltb a 16 h) (le-ltb (bit_or a b) 16 (omega (arith, le_or_l a b)))

-- what the loop makes of the next two characters, whose values are x and y
module _ (l : List ℕ) (j x y : ℕ) (h : 2 * j + 1 < length l) (e : x ≡ digit_value (get_or l (2 * j) 0)) (f : y ≡ digit_value (get_or l (2 * j + 1) 0)) where
  pub next_digits : (w : ℕ) → (ltb w 16 && all_digits (drop (2 * j) l)) ≡ all_digits l
      → (ltb (bit_or w (bit_or x y)) 16 && all_digits (drop (2 * (j + 1)) l)) ≡ all_digits l
  next_digits w g =
      let n : 2 * (j + 1) ≡ 2 * j + 2 = omega arith in
      let r = all_digits (drop (2 * j + 2) l) in
      let t : ((ltb x 16 && ltb y 16) && r) ≡ all_digits (drop (2 * j) l) = and_assoc (ltb x 16) (ltb y 16) r ∙ rw (e, f) (sym (all_two l (2 * j) h)) in
      rw (n, or_digits w (bit_or x y), or_digits x y)
      (and_assoc (ltb w 16) (ltb x 16 && ltb y 16) r ∙ ap (λ (b : Bool). ltb w 16 && b) t ∙ g)

  pub next_byte : (bytes : List ℕ) → x < 16 → y < 16 → length l ≤ line_digits → bytes ≡ fronted blank (take j (pairs l))
      → set bytes j ((x * 16 % 256 + y) % 256) ≡ fronted blank (take (j + 1) (pairs l))
  next_byte bytes p q k s =
      let bs = take j (pairs l) in
      let m : length (pairs l) ≡ length l / 2 = length_pairs l in
      let n : length bs ≡ j = length-take-le j (pairs l) (omega arith) in
      let v : (x * 16 % 256 + y) % 256 ≡ x * 16 + y = omega arith in
      let t : take (j + 1) (pairs l) ≡ bs ++ ((x * 16 + y) ∷ []) = rw (add-one, take-suc (pairs l) j 0 (omega arith), pairs-at l j h, e, f) refl in
      rw (s, v, t) (ap (λ (i : ℕ). set (fronted blank bs) i (x * 16 + y)) (sym n) ∙ one_set blank bs (x * 16 + y) (omega arith))

pub all_done : (l : List ℕ) (j : ℕ) → length l ≤ 2 * j → all_digits (drop (2 * j) l) ≡ all_digits l → all_digits l ≡ true
all_done l j h e = sym e ∙ ap all_digits (drop_of_length-le l h)

-- ## Bytes as digits

hex-append : (a b : List ℕ) → hexadecimal (a ++ b) ≡ hexadecimal a ++ hexadecimal b
hex-append [] b = refl
hex-append (x ∷ a) b = ap (λ (t : List ℕ). glyph (x / 16) ∷ glyph (x % 16) ∷ t) (hex-append a b)

pub length-hex : (a : List ℕ) → length (hexadecimal a) ≡ 2 * length a
length-hex [] = refl
length-hex (x ∷ a) = let e : length (hexadecimal a) ≡ 2 * length a = length-hex a in omega arith

-- one byte more, where the digits of those before it stand at the front of l
pub hex_more : (l r : List ℕ) (i : ℕ) → 2 * length r ≤ length l → i < length r
    → set (set (fronted l (hexadecimal (take i r))) (2 * i) (glyph (get_or r i 0 / 16))) (2 * i + 1) (glyph (get_or r i 0 % 16))
    ≡ fronted l (hexadecimal (take (i + 1) r))
hex_more l r i k h =
    let t = hexadecimal (take i r) in
    let x = glyph (get_or r i 0 / 16) in
    let y = glyph (get_or r i 0 % 16) in
    let m : length t ≡ 2 * i = length-hex (take i r) ∙ ap (λ (n : ℕ). 2 * n) (length-take-le i r (omega arith)) in
    let n : length (t ++ (x ∷ [])) ≡ 2 * i + 1 = length-append t (x ∷ []) ∙ ap (λ (n : ℕ). n + 1) m in
    let e : (t ++ (x ∷ [])) ++ (y ∷ []) ≡ hexadecimal (take (i + 1) r) =
    append_assoc t (x ∷ []) (y ∷ []) ∙ rw (add-one, take-suc r i 0 h) (sym (hex-append (take i r) (get_or r i 0 ∷ []))) in
    ap (λ (u : List ℕ). set u (2 * i + 1) y) (ap (λ (n : ℕ). set (fronted l t) n x) (sym m) ∙ one_set l t x (omega arith))
    ∙ ap (λ (n : ℕ). set (fronted l (t ++ (x ∷ []))) n y) (sym n)
    ∙ one_set l (t ++ (x ∷ [])) y (omega arith)
    ∙ ap (fronted l) e
