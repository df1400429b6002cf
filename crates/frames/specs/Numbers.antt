-- Big-endian numbers in byte strings, over the width and over any list of widths: 01, Frames.
use Rattle.std.specs.Prelude.{ℕ, zero, suc, ◌+◌, ◌*◌, ◌/◌, ◌%◌, ◌^◌, List, [], ◌∷◌, ◌++◌, length, take, drop}

-- the number that a byte string spells, the highest byte first
abbrev pub number : List ℕ → ℕ
number [] = 0
number (b ∷ bs) = b * 256 ^ length bs + number bs

-- the lowest n bytes of a number, the highest first
abbrev pub bytes : ℕ → ℕ → List ℕ
bytes zero x = []
bytes (suc n) x = x / 256 ^ n % 256 ∷ bytes n x

-- the number of n bytes that starts at a place; 0 past the end
abbrev pub field : List ℕ → ℕ → ℕ → ℕ
field s at n = number (take n (drop at s))

-- the numbers of these widths that stand one after the other from a place on
abbrev pub split : List ℕ → ℕ → List ℕ → List ℕ
split [] at s = []
split (w ∷ ws) at s = field s at w ∷ split ws (at + w) s

-- the bytes of these numbers at these widths, one after the other
abbrev pub join : List ℕ → List ℕ → List ℕ
join [] xs = []
join (w ∷ ws) [] = []
join (w ∷ ws) (x ∷ xs) = bytes w x ++ join ws xs

-- how many bytes these widths take
abbrev pub total : List ℕ → ℕ
total [] = 0
total (w ∷ ws) = w + total ws
