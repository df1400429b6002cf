-- Laws of runs of stores, and of a row that fills from the front. Assumes nothing.
use mathlib.Core.Path.{◌≡◌, refl, sym, ap, ◌∙◌}
use mathlib.Core.Logic.{⊎_elim}
use mathlib.Core.List.{List, [], ◌∷◌, ◌++◌, append_assoc}
use Prim.Native.Nat.{ℕ, suc, ◌+◌, ◌-◌, ◌≤◌, ◌<◌, min}
use native.Mathlib.Nat.{add-zero, add-suc, suc-add}
use native.Mathlib.Numerals.{add-one}
use native.Mathlib.Omega.{arith}
use borrow.Author.Tests.{lt-ltb, le-ltb}
use lib.ListN.{length, take, drop, set, length-append, length-drop, take-append-drop}
use borrow.Rule.Slice.PartMut.{put_mid}
use lib.Seq.{sets, length-take-le, drop-cons, set-append_seam}
use Rattle.std.proofs.lemmas.Bool.{cases_lt}
use Rattle.lines.specs.Types.{Row}
use Rattle.lines.specs.Rows.{fronted, all_pushed}

-- a run of stores after a run of stores
pub sets-append : (vs ws l : List ℕ) (i : ℕ) → sets (sets l i vs) (i + length vs) ws ≡ sets l i (vs ++ ws)
sets-append [] ws l i = rw add-zero
sets-append (v ∷ vs) ws l i = rw (add-suc, ← suc-add) (sets-append vs ws (set l i v) (suc i))

-- one byte more at its place
pub one_set : (l bs : List ℕ) (b : ℕ) → length bs < length l → set (fronted l bs) (length bs) b ≡ fronted l (bs ++ (b ∷ []))
one_set l bs b h =
    rw (length-append bs (b ∷ []), add-one, drop-cons l (length bs) 0 h)
    (set-append_seam bs _ (drop (suc (length bs)) l) b ∙ sym (append_assoc bs (b ∷ []) (drop (suc (length bs)) l)))

module _ {n : ℕ} where
  -- a full row drops what comes
  full : (r : Row n) (bs : List ℕ) → n ≤ r.count → all_pushed r bs ≡ r
  full r [] h = refl
  full r (b ∷ bs) h = rw (le-ltb r.count n h) (full r bs h)

  -- bytes more, between a front and a rest: the first k of them, where k are all or as many as there is room for
  pushed_at_once : (front rest bs : List ℕ) (k : ℕ) → length front + length rest ≡ n → k ≡ min (length bs) (length rest)
      → ◌≡◌ {A = Row n} (record { bytes = front ++ (take k bs ++ drop k rest); count = length front + k }) (all_pushed (record { bytes = front ++ rest; count = length front }) bs)
  pushed_at_once front rest [] k m e = let z : k ≡ 0 = omega arith in rw (z, add-zero) refl
  pushed_at_once front [] (b ∷ bs) k m e =
      let z : k ≡ 0 = omega arith in
      rw (z, le-ltb (length front) n (omega arith)) (pushed_at_once front [] bs 0 m (omega arith))
  pushed_at_once front (r ∷ rest) (b ∷ bs) k m e =
      let z : k ≡ suc (min (length bs) (length rest)) = omega arith in
      let j = min (length bs) (length rest) in
      let h : length (front ++ (b ∷ [])) ≡ length front + 1 = length-append front (b ∷ []) in
      let q : length front + suc j ≡ length front + 1 + j = omega arith in
      let more = pushed_at_once (front ++ (b ∷ [])) rest bs j (omega arith) refl in
      rw (z, lt-ltb (length front) n (omega arith), set-append_seam front r rest b, q)
      (rw (append_assoc front (b ∷ []) (take j bs ++ drop j rest), append_assoc front (b ∷ []) rest, h) at more)

  -- as many bytes as there is room for, written where the others end
  module _ (l bs part : List ℕ) (count from wide k : ℕ) (m : length l ≡ n) (f : from ≡ min count n) (e : k ≡ min (length bs) (n - from)) (g : wide ≡ k) (p : part ≡ take k bs) where
    some : count < n → ◌≡◌ {A = Row n} (record { bytes = put_mid from wide l part; count = count + k }) (all_pushed (record { bytes = l; count = count }) bs)
    some h =
        let front = take count l in
        let rest = drop count l in
        let u : from ≡ count = omega arith in
        let i : length front ≡ count = length-take-le count l (omega arith) in
        let j : length rest ≡ n - count = length-drop count l ∙ ap (λ (x : ℕ). x - count) m in
        let v : k ≡ min (length bs) (length rest) = omega arith in
        let q = pushed_at_once front rest bs k (omega arith) v in
        rw (g, p, u) (rw (i, take-append-drop count l) at q)

    none : n ≤ count → ◌≡◌ {A = Row n} (record { bytes = put_mid from wide l part; count = count + k }) (all_pushed (record { bytes = l; count = count }) bs)
    none h =
        let z : k ≡ 0 = omega arith in
        rw (g, p, z, add-zero count, full (record { bytes = l; count = count }) bs h)
        (ap (λ (x : List ℕ). record { bytes = x; count = count }) (take-append-drop from l))

    pub pushed_into : ◌≡◌ {A = Row n} (record { bytes = put_mid from wide l part; count = count + k }) (all_pushed (record { bytes = l; count = count }) bs)
    pushed_into = ⊎_elim some none (cases_lt count n)
