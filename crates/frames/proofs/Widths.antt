-- Laws of big-endian numbers and of lists of them, over the width and over any list of widths. Assumes nothing.
use mathlib.Core.Path.{◌≡◌, refl, sym, ap, ap₂, ◌∙◌}
use mathlib.Core.List.{List, [], ◌∷◌, ◌++◌, append_assoc}
use Prim.Native.Nat.{ℕ, zero, suc, ◌+◌, ◌-◌, ◌*◌, ◌/◌, ◌%◌, ◌^◌, ◌≤◌, ◌<◌}
use native.Mathlib.Nat.{one-le-pow, add-zero, add-suc, suc-add, mod-one, mod-eq_of_lt, mul-add-div_right, mul-add-mod_self_right, pow-suc, pow-succ'}
use native.Mathlib.Omega.{arith}
use lib.Pow.{pow-add}
use lib.ListN.{length, take, drop, get_or, length-append, length-drop}
use lib.Seq.{length-take-le, take_all, take-add, drop-cons, drop-drop, take-take, take_at, drop_at}
use lib.Arith.{digits_lt, digits_div, mod-mul}
use lib.Dec.{lit<}
use Rattle.frames.specs.Numbers.{number, bytes, field, split, join, total}
use Rattle.std.proofs.lemmas.Grind.{common_steps}
use Rattle.std.proofs.lemmas.List.{drop-take}
use Rattle.std.proofs.lemmas.List.Elements.{All-head, All-tail, All-take, All-drop}
use Rattle.frames.specs.RoundTrips.{IsByte, Bytes, Fit}

-- ## One number

pub length-bytes : (n x : ℕ) → length (bytes n x) ≡ n
length-bytes zero x = refl
length-bytes (suc n) x = ap suc (length-bytes n x)

-- the bytes of a number spell its lowest bytes
pub number-bytes : (n x : ℕ) → number (bytes n x) ≡ x % 256 ^ n
number-bytes zero x = sym (mod-one x)
number-bytes (suc n) x =
    rw (length-bytes n x, number-bytes n x, pow-succ' 256 n) (sym (mod-mul x (lit< tt) (one-le-pow n 256 (lit< tt))))

pub number_lt : (l : List ℕ) → Bytes l → number l < 256 ^ length l
number_lt [] h = lit< tt
number_lt (b ∷ l) h = rw (pow-succ' 256 (length l)) (digits_lt (All-head IsByte b l h) (number_lt l (All-tail IsByte b l h)))

-- what stands above a number's lowest n bytes does not reach them
high : (n j q m : ℕ) → bytes n (q * 256 ^ (n + j) + m) ≡ bytes n m
high zero j q m = refl
high (suc n) j q m =
    let e : q * 256 ^ (suc n + j) ≡ q * 256 ^ j * 256 * 256 ^ n = rw (pow-add 256 (suc n) j, pow-suc 256 n) (omega arith) in
    ap₂ ◌∷◌
    (rw (e, mul-add-div_right (one-le-pow n 256 (lit< tt)) (q * 256 ^ j * 256) m) (mul-add-mod_self_right (q * 256 ^ j) 256 (m / 256 ^ n)))
    (rw (suc-add, ← add-suc) (high n (suc j) q m))

-- a string of bytes is the bytes of the number that it spells
pub bytes-number : (l : List ℕ) → Bytes l → bytes (length l) (number l) ≡ l
bytes-number [] h = refl
bytes-number (b ∷ l) h =
    ap₂ ◌∷◌
    (rw (digits_div b (number_lt l (All-tail IsByte b l h))) (mod-eq_of_lt (All-head IsByte b l h)))
    ((let z = high (length l) 0 b (number l) in rw add-zero at z) ∙ bytes-number l (All-tail IsByte b l h))

-- ## A number at a place

-- the n bytes at at + k and on, one by one
abbrev pub gather : List ℕ → ℕ → ℕ → ℕ → List ℕ
gather s at k zero = []
gather s at k (suc n) = get_or s (at + k) 0 ∷ gather s at (suc k) n

part_gather : (s : List ℕ) (at k n : ℕ) → at + k + n ≤ length s → take n (drop (at + k) s) ≡ gather s at k n
part_gather s at k zero h = refl
part_gather s at k (suc n) h =
    let l : at + k < length s = omega arith in
    let m : at + suc k + n ≤ length s = omega arith in
    rw (drop-cons s (at + k) 0 l, ← add-suc) (ap (λ (t : List ℕ). get_or s (at + k) 0 ∷ t) (part_gather s at (suc k) n m))

-- a field is the number that the bytes there spell
pub field-gather : (s : List ℕ) (at n : ℕ) → at + n ≤ length s → field s at n ≡ number (gather s at 0 n)
field-gather s at n h = let m : at + 0 + n ≤ length s = omega arith in rw (← part_gather s at 0 n m, add-zero)

-- a byte is the number that it spells
pub field_one : (s : List ℕ) (at : ℕ) → at < length s → get_or s at 0 ≡ field s at 1
field_one s at h = grind (arith, common_steps)

-- past the end stands 0
pub field-none : (s : List ℕ) (at : ℕ) → length s ≤ at → 0 ≡ field s at 1
field-none s at h = grind (arith, common_steps)

-- the bytes of the number in a place are what stands there
pub bytes-field : (s : List ℕ) (at n : ℕ) → Bytes s → at + n ≤ length s → bytes n (field s at n) ≡ take n (drop at s)
bytes-field s at n b h =
    let e : length (take n (drop at s)) ≡ n = length-take-le n (drop at s) (simp length-drop (omega arith)) in
    rw e at (bytes-number (take n (drop at s)) (All-take IsByte n (drop at s) (All-drop IsByte at s b)))

-- the number that was written after p
field-after : (p t : List ℕ) (w x : ℕ) → x < 256 ^ w → field (p ++ (bytes w x ++ t)) (length p) w ≡ x
field-after p t w x h = rw (drop_at p (bytes w x ++ t) (length p) refl, take_at (bytes w x) t w (length-bytes w x), number-bytes w x) (mod-eq_of_lt h)

-- ## Numbers of a list of widths

-- as long as the widths say
pub length-join : (ws xs : List ℕ) → length ws ≡ length xs → length (join ws xs) ≡ total ws
length-join [] xs e = refl
length-join (w ∷ ws) [] e = absurd (omega arith)
length-join (w ∷ ws) (x ∷ xs) e = simp (length-append, length-bytes, length-join ws xs (omega arith))

-- to split and to join gives the bytes back
pub join-split : (ws : List ℕ) (at : ℕ) (s : List ℕ) → Bytes s → at + total ws ≤ length s → join ws (split ws at s) ≡ take (total ws) (drop at s)
join-split [] at s b h = refl
join-split (w ∷ ws) at s b h =
    let m : at + w ≤ length s = omega arith in
    let n : at + w + total ws ≤ length s = omega arith in
    rw (bytes-field s at w b m, join-split ws (at + w) s b n, take-add w (total ws) (drop at s), drop-drop w at s)

-- a string that is as long as the widths say is the whole of its numbers
pub join_split_all : (ws s : List ℕ) → Bytes s → length s ≡ total ws → join ws (split ws 0 s) ≡ s
join_split_all ws s b e = join-split ws 0 s b (omega arith) ∙ take_all (total ws) s (omega arith)

split_after : (ws xs p t : List ℕ) → Fit ws xs → split ws (length p) (p ++ (join ws xs ++ t)) ≡ xs
split_after [] [] p t h = refl
split_after [] (x ∷ xs) p t h = absurd h
split_after (w ∷ ws) [] p t h = absurd h
split_after (w ∷ ws) (x ∷ xs) p t h =
    let e : length p + w ≡ length (p ++ bytes w x) = simp (length-append, length-bytes) in
    let a : p ++ (bytes w x ++ (join ws xs ++ t)) ≡ p ++ bytes w x ++ (join ws xs ++ t) = simp append_assoc in
    rw (append_assoc (bytes w x) (join ws xs) t)
    (ap₂ ◌∷◌ (field-after p (join ws xs ++ t) w x h.0) (rw (e, a) (split_after ws xs (p ++ bytes w x) t h.1)))

-- to join and to split gives the numbers back, whatever follows
pub split-join : (ws xs t : List ℕ) → Fit ws xs → split ws 0 (join ws xs ++ t) ≡ xs
split-join ws xs t h = split_after ws xs [] t h

-- ## The numbers in the first m bytes are those of the whole

part_take : (at n m : ℕ) (s : List ℕ) → at + n ≤ m → take n (drop at (take m s)) ≡ take n (drop at s)
part_take at n m s h =
    let e : at + (m - at) ≡ m = omega arith in
    let k : n ≤ m - at = omega arith in
    rw (← e, drop-take at (m - at) s) (take-take n (m - at) (drop at s) k)

split-take : (ws : List ℕ) (at m : ℕ) (s : List ℕ) → at + total ws ≤ m → split ws at (take m s) ≡ split ws at s
split-take [] at m s h = refl
split-take (w ∷ ws) at m s h = ap₂ ◌∷◌ (ap number (part_take at w m s (omega arith))) (split-take ws (at + w) m s (omega arith))

-- strings that begin alike have the same numbers there
pub split_alike : (ws : List ℕ) (m : ℕ) (s t : List ℕ) → total ws ≤ m → take m s ≡ take m t → split ws 0 s ≡ split ws 0 t
split_alike ws m s t h e =
    let l : 0 + total ws ≤ m = omega arith in
    sym (split-take ws 0 m s l) ∙ ap (split ws 0) e ∙ split-take ws 0 m t l
