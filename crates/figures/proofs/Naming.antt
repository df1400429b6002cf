-- The tests of IDs and names decide equality, and what they say of free places. Assumes nothing.
use Prim.Native.Nat.{ℕ}
use mathlib.Core.Path.{◌≡◌, refl}
use mathlib.Core.Bool.{Bool, true, false, ◌&&◌, and-false}
use borrow.Author.Tests.{eqb-true, eq-eqb}
use lib.Dec.{eqb}
use Rattle.places.proofs.Tests.{and_left, and_right, and_both}
use Rattle.figures.specs.Types.{KeyId, RightName, Right}
use Rattle.figures.specs.Names.{same_id, same_name}
use Rattle.figures.specs.Keys.{free_key, is_key}
use Rattle.figures.specs.Rights.{free_right, is_right, is_of}

eqb_same : (n : ℕ) → eqb n n ≡ true
eqb_same n = eq-eqb n n refl

-- ## 01, Frames: IDs are equal when all seven bytes are

pub same_id_eq : {a b : KeyId} → same_id a b ≡ true → a ≡ b
unfolding same_id
same_id_eq {a} {b} h =
    let d0 : a.domain.0 ≡ b.domain.0 = search (eqb-true, and_left, and_right) in
    let d1 : a.domain.1 ≡ b.domain.1 = search (eqb-true, and_left, and_right) in
    let d2 : a.domain.2 ≡ b.domain.2 = search (eqb-true, and_left, and_right) in
    let g : a.group ≡ b.group = search (eqb-true, and_left, and_right) in
    let n : a.number ≡ b.number = search (eqb-true, and_left, and_right) in
    λ i. record { domain = record { 0 = d0 i; 1 = d1 i; 2 = d2 i }; group = g i; number = n i }

pub same_id_refl : (a : KeyId) → same_id a a ≡ true
unfolding same_id
same_id_refl a = simp eqb_same

-- ## 01, Rights: a right is named by ID, TS low, TS high and SPE

pub same_name_eq : {a b : RightName} → same_name a b ≡ true → a ≡ b
unfolding same_name
same_name_eq {a} {b} h =
    let d : a.id ≡ b.id = search (same_id_eq, and_left, and_right) in
    let l : a.interval.low.0 ≡ b.interval.low.0 = search (eqb-true, and_left, and_right) in
    let g : a.interval.high.0 ≡ b.interval.high.0 = search (eqb-true, and_left, and_right) in
    let s : a.spe ≡ b.spe = search (eqb-true, and_left, and_right) in
    λ i. record { id = d i; interval = record { low = record { 0 = l i }; high = record { 0 = g i } }; spe = s i }

pub same_name_refl : (a : RightName) → same_name a a ≡ true
unfolding same_name
same_name_refl a = simp (same_id_refl, eqb_same)

-- ## Keys and rights by ID and name

-- what is of the ID n is of no other
pub other : (t : Bool) (a n i : KeyId) → same_id n i ≡ false → (t && same_id a n) ≡ true → (t && same_id a i) ≡ false
other t a n i h e = let q : a ≡ n = search (same_id_eq, and_right) in rw (q, h) (and-false t)

-- a right of a name is one of the name's ID
pub is_right-is_of : (n : RightName) (r : Right) → is_right n r ≡ true → is_of n.id r ≡ true
unfolding same_name
is_right-is_of n r h = and_both {a = r.held} {b = same_id r.name.id n.id} (search (and_left)) (search (and_left, and_right))

-- a free place is of no ID and of no name
pub is_key-free : (i : KeyId) → is_key i free_key ≡ false
unfolding free_key
is_key-free i = refl

pub is_of-free : (i : KeyId) → is_of i free_right ≡ false
unfolding free_right
is_of-free i = refl

pub is_right-free : (n : RightName) → is_right n free_right ≡ false
unfolding free_right
is_right-free n = refl
