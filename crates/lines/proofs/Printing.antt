-- What a reply's line is: its length, its digits, and that they read back. Assumes nothing.
use mathlib.Core.Path.{◌≡◌, refl, ap, ap₂, ◌∙◌}
use mathlib.Core.Bool.{true}
use mathlib.Core.List.{List, [], ◌∷◌}
use Prim.Native.Nat.{ℕ, ◌+◌, ◌-◌, ◌*◌, ◌/◌, ◌%◌, ◌≤◌, ◌<◌}
use native.Mathlib.Omega.{arith}
use borrow.Author.Tests.{lt-ltb, le-leb, lt-leb, ltb-true, ltb-false}
use lib.Dec.{ltb}
use lib.ListN.{length, length-append}
use Rattle.std.proofs.lemmas.Bool.{cond_both}
use Rattle.figures.specs.Limits.{reply_widths}
use Rattle.frames.specs.Numbers.{total}
use Rattle.rules.specs.Replies.{reply_fields, reply_bytes}
use Rattle.lines.specs.Types.{Reply, Loaded, Deleted, Granted, Reported, OverHeld, OverNew, Refused}
use Rattle.lines.specs.Hex.{line_feed, digit_value, all_digits, pairs, glyph, hexadecimal, printed, reply_line}
use Rattle.lines.proofs.Spelling.{length-hex}

-- a reply is 14 bytes
pub reply_long : (r : Reply) → length (reply_bytes r) ≡ total reply_widths
unfolding reply_bytes reply_fields
reply_long (Loaded s) = refl
reply_long (Deleted purse) = refl
reply_long (Granted s) = refl
reply_long (Reported s) = refl
reply_long (OverHeld s) = refl
reply_long (OverNew purse) = refl
reply_long (Refused r) = refl

-- and its line 28 digits and a line feed
pub printed_long : (r : Reply) → length (printed r) ≡ reply_line
unfolding printed
printed_long r =
    length-append (hexadecimal (reply_bytes r)) (line_feed ∷ [])
    ∙ ap (λ (n : ℕ). n + 1) (length-hex (reply_bytes r) ∙ ap (λ (n : ℕ). 2 * n) (reply_long r))

low_value : (c : ℕ) → 48 ≤ c → c ≤ 57 → digit_value c ≡ c - 48
unfolding digit_value
low_value c h g = simp (le-leb 48 c h, le-leb c 57 g)

high_value : (c : ℕ) → 65 ≤ c → c ≤ 70 → digit_value c ≡ c - 65 + 10
unfolding digit_value
high_value c h g = simp (le-leb 48 c (omega arith), lt-leb c 57 (omega arith), le-leb 65 c h, le-leb c 70 g)

digit_glyph : (d : ℕ) → d < 16 → digit_value (glyph d) ≡ d
digit_glyph d h =
    cond_both (ltb d 10) (d + 48) (d - 10 + 65) (λ (c : ℕ). digit_value c ≡ d)
    (λ e. let k : d < 10 = ltb-true d 10 e in low_value (d + 48) (omega arith) (omega arith) ∙ omega arith)
    (λ e. let k : 10 ≤ d = ltb-false d 10 e in high_value (d - 10 + 65) (omega arith) (omega arith) ∙ omega arith)

-- the digits of a byte have the values that it was cut into
digits_back : (b : ℕ) → b < 256 → (digit_value (glyph (b / 16)) ≡ b / 16) × (digit_value (glyph (b % 16)) ≡ b % 16)
digits_back b h = (digit_glyph (b / 16) (omega arith), digit_glyph (b % 16) (omega arith))

-- each a byte
abbrev pub Bytewise : List ℕ → Type 0
Bytewise [] = Unit {0}
Bytewise (b ∷ bs) = (b < 256) × Bytewise bs

-- the digits of bytes spell those bytes
pub read_back : (bs : List ℕ) → Bytewise bs → pairs (hexadecimal bs) ≡ bs
read_back [] h = refl
read_back (b ∷ bs) h =
    let d = digits_back b h.0 in
    ap₂ (λ (n : ℕ) (l : List ℕ). n ∷ l) (omega arith) (read_back bs h.1)

-- and are upper-case hexadecimal digits
pub all_glyphs : (bs : List ℕ) → Bytewise bs → all_digits (hexadecimal bs) ≡ true
all_glyphs [] h = refl
all_glyphs (b ∷ bs) h =
    let k : b < 256 = h.0 in
    let d = digits_back b k in
    rw (lt-ltb (digit_value (glyph (b / 16))) 16 (omega arith), lt-ltb (digit_value (glyph (b % 16))) 16 (omega arith)) (all_glyphs bs h.1)
