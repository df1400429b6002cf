-- The library's numbers from bytes and bytes of numbers, highest first, are those of specs/Numbers.antt. Assumes nothing.
use Rattle.std.proofs.Common.{◌≡◌, ℕ, zero, suc, ◌/◌, ◌%◌, ◌^◌, List, [], ◌∷◌, length, refl, sym, ap, ap₂, arith}
use Rattle.std.proofs.Math.Nat.{div-one}
use Rattle.std.specs.Int.{w16, w32, byte_at, bytes_high_first, from_be_bytes, to_be_bytes}
use Rattle.frames.specs.Numbers.{number, bytes}

-- ## The number that bytes spell

pub number_2 : (l : List ℕ) → length l ≡ 2 → from_be_bytes w16 l ≡ number l
number_2 (a ∷ b ∷ []) e = omega arith
number_2 [] e = absurd (omega arith)
number_2 (a ∷ []) e = absurd (omega arith)
number_2 (a ∷ b ∷ c ∷ l) e = absurd (omega arith)

pub number_4 : (l : List ℕ) → length l ≡ 4 → from_be_bytes w32 l ≡ number l
number_4 (a ∷ b ∷ c ∷ d ∷ []) e = omega arith
number_4 [] e = absurd (omega arith)
number_4 (a ∷ []) e = absurd (omega arith)
number_4 (a ∷ b ∷ []) e = absurd (omega arith)
number_4 (a ∷ b ∷ c ∷ []) e = absurd (omega arith)
number_4 (a ∷ b ∷ c ∷ d ∷ x ∷ l) e = absurd (omega arith)

-- ## The bytes that spell a number

byte : (n x : ℕ) → byte_at n x ≡ x / 256 ^ n % 256
byte zero x = ap (λ (y : ℕ). y % 256) (sym (div-one x))
byte (suc n) x = refl

high_first : (n x : ℕ) → bytes_high_first n x ≡ bytes n x
high_first zero x = refl
high_first (suc n) x = ap₂ ◌∷◌ (byte n x) (high_first n x)

pub bytes_2 : (x : ℕ) → to_be_bytes w16 x ≡ bytes 2 x
bytes_2 x = high_first 2 x

pub bytes_4 : (x : ℕ) → to_be_bytes w32 x ≡ bytes 4 x
bytes_4 x = high_first 4 x
