-- A line of upper-case hexadecimal as bytes, and a reply as such a line: 01, The line program.
use Rattle.std.specs.Prelude.{ℕ, ◌+◌, ◌-◌, ◌*◌, ◌/◌, ◌%◌, Bool, true, not, ◌&&◌, ◌||◌, Option, None, Some, List, [], ◌∷◌, ◌++◌, length, replicate, ltb, leb, eqb, if◌then◌else◌}
use Rattle.figures.specs.Limits.{line_digits, reply_widths}
use Rattle.frames.specs.Numbers.{total}
use Rattle.rules.specs.Replies.{reply_bytes}
use Rattle.lines.specs.Types.{Row, Reply}
use Rattle.lines.specs.Rows.{filled}

abbrev pub line_feed : ℕ
line_feed = 10

-- ## A line as bytes

-- 0 to 9 are 48 to 57, and A to F are 65 to 70; 16 stands for any other character
unfoldable pub digit_value : ℕ → ℕ
digit_value c =
    if leb 48 c && leb c 57 then c - 48
    else (if leb 65 c && leb c 70 then c - 65 + 10
    else 16)

abbrev pub is_digit : ℕ → Bool
is_digit c = ltb (digit_value c) 16

-- what two digits are worth
abbrev pub worth : ℕ → ℕ → ℕ
worth a b = digit_value a * 16 + digit_value b

abbrev pub all_digits : List ℕ → Bool
all_digits [] = true
all_digits (c ∷ cs) = is_digit c && all_digits cs

-- two digits a byte
abbrev pub pairs : List ℕ → List ℕ
pairs [] = []
pairs (a ∷ []) = []
pairs (a ∷ b ∷ cs) = worth a b ∷ pairs cs

-- an empty line, an odd count, more than 84 characters, or another character
unfoldable pub damaged : List ℕ → Bool
damaged l = eqb (length l) 0 || eqb (length l % 2) 1 || ltb line_digits (length l) || not (all_digits l)

-- as many bytes as the longest line spells
abbrev pub frame_bytes : ℕ
frame_bytes = line_digits / 2

-- all zero
abbrev pub blank : List ℕ
blank = replicate frame_bytes 0

-- bytes at the front, and zeros after them
abbrev pub spelt : List ℕ → Row frame_bytes
spelt bs = filled blank bs

unfoldable pub decoding : List ℕ → Option (Row frame_bytes)
decoding l = if damaged l then None else Some (spelt (pairs l))

-- ## A reply as a line

-- the digit of a value below 16
abbrev pub glyph : ℕ → ℕ
glyph d = if ltb d 10 then d + 48 else d - 10 + 65

abbrev pub hexadecimal : List ℕ → List ℕ
hexadecimal [] = []
hexadecimal (b ∷ bs) = glyph (b / 16) ∷ glyph (b % 16) ∷ hexadecimal bs

-- a reply's digits and a line feed
unfoldable pub printed : Reply → List ℕ
printed r = hexadecimal (reply_bytes r) ++ (line_feed ∷ [])

-- so many characters
abbrev pub reply_line : ℕ
reply_line = 2 * total reply_widths + 1
