-- The paper's numbers of places, SPEs and limits, once; its table of frames stands in Layouts of frames, its codes in Replies here and in rules.
-- Those of the code stand in src/limits.rt, and proofs tie the two.
use Rattle.std.specs.Prelude.{ℕ, List, [], ◌∷◌}

-- 01, Rights: key places
abbrev pub key_places : ℕ
key_places = 16

-- 01, Rights: right places
abbrev pub right_places : ℕ
right_places = 32

-- 01, Rights: a key's sixteen bytes, and so the key buffer's
abbrev pub key_bytes : ℕ
key_bytes = 16

-- 01, Rights, the table's SPE column: live, from the user purse
abbrev pub live_purse : ℕ
live_purse = 0x02

-- playback, from the user purse
abbrev pub playback_purse : ℕ
playback_purse = 0x03

-- key deletion, holds nothing
abbrev pub deletion : ℕ
deletion = 0x0A

-- live, from its own TEK counter
abbrev pub live_counted : ℕ
live_counted = 0x0C

-- playback, from its own TEK counter
abbrev pub playback_counted : ℕ
playback_counted = 0x0D

-- the SPE of a free place: no SPE of the paper
abbrev pub no_spe : ℕ
no_spe = 0xFF

-- 01, Rights, the table's limits: of the user purse
abbrev pub purse_limit : ℕ
purse_limit = 0x7FFFFFF

-- of a live TEK counter
abbrev pub live_limit : ℕ
live_limit = 0x3FFFFF

-- of a playback TEK counter
abbrev pub playback_limit : ℕ
playback_limit = 0x7FFFFF

-- 01, Replies: code, place of the right, value, purse, replay counter, in bytes
abbrev pub reply_widths : List ℕ
reply_widths = 1 ∷ 1 ∷ 4 ∷ 4 ∷ 4 ∷ []

-- 01, Replies: the place that stands for none, FF
abbrev pub no_place : ℕ
no_place = 0xFF

-- 01, The line program: the longest line, in digits
abbrev pub line_digits : ℕ
line_digits = 84
