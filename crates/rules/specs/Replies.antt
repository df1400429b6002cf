-- The code and the bytes of every reply: 01, Replies.
use Rattle.std.specs.Prelude.{ℕ, List, [], ◌∷◌, get_or}
use Rattle.figures.specs.Limits.{reply_widths, no_place}
use Rattle.figures.specs.Replies.{refusal_code}
use Rattle.frames.specs.Numbers.{join}
use Rattle.rules.specs.Types.{Account, Counted, Purse, Shown, Reply, Loaded, Deleted, Granted, Reported, OverHeld, OverNew, Refused}

-- 01, Replies: value is the right's counter, or its cost for SPE 02 and 03
abbrev pub value_of : Account → ℕ
value_of (Counted left) = left.0
value_of (Purse cost) = cost.0

-- code, and the right as held
abbrev pub held : ℕ → Shown → List ℕ
held code s = code ∷ s.place ∷ value_of s.account ∷ s.purse.0 ∷ s.replay.0 ∷ []

-- code, FF, 0, purse, 0
abbrev pub none : ℕ → ℕ → List ℕ
none code purse = code ∷ no_place ∷ 0 ∷ purse ∷ 0 ∷ []

-- 01, Replies, the table: each code, and the rest of the reply
unfoldable pub reply_fields : Reply → List ℕ
reply_fields (Loaded s) = held 0x00 s
reply_fields (Deleted purse) = none 0x00 purse.0
reply_fields (Granted s) = held 0x01 s
reply_fields (Reported s) = held 0x02 s
reply_fields (OverHeld s) = held 0x17 s
reply_fields (OverNew purse) = none 0x17 purse.0
reply_fields (Refused r) = none (refusal_code r) 0

-- the code stands first
unfoldable pub code : Reply → ℕ
code r = get_or (reply_fields r) 0 0

-- 01, Replies: 14 bytes: code 1, place of the right 1, value 4, purse 4, replay counter of the key 4
unfoldable pub reply_bytes : Reply → List ℕ
reply_bytes r = join reply_widths (reply_fields r)
