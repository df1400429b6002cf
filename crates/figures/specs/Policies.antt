-- The table of 01, Rights: which SPE is for what, pays from what, and how far its counter goes.
use Rattle.std.specs.Prelude.{ℕ, Bool, ◌||◌, eqb, if◌then◌else◌}
use Rattle.figures.specs.Limits.{live_purse, playback_purse, deletion, live_counted, playback_counted, live_limit, playback_limit, purse_limit}
use Rattle.figures.specs.Types.{Tokens, TrafficKeys}

-- for live; every other right is for playback
unfoldable pub is_live : ℕ → Bool
is_live s = eqb s live_purse || eqb s live_counted

-- pays from its own TEK counter
unfoldable pub is_counted : ℕ → Bool
is_counted s = eqb s live_counted || eqb s playback_counted

-- pays from the user purse
unfoldable pub is_purse : ℕ → Bool
is_purse s = eqb s live_purse || eqb s playback_purse

-- a right can have this SPE
unfoldable pub holds_right : ℕ → Bool
holds_right s = is_purse s || is_counted s

-- key deletion, holds nothing
unfoldable pub is_deletion : ℕ → Bool
is_deletion s = eqb s deletion

-- how far a counter goes
unfoldable pub count_limit : ℕ → TrafficKeys
count_limit s = if eqb s live_counted then record { 0 = live_limit } else record { 0 = playback_limit }

-- how far the purse goes that a right of this SPE pays from
unfoldable pub purse_limit_of : ℕ → Tokens
purse_limit_of s = record { 0 = purse_limit }
