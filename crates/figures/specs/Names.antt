-- When two IDs or two names are the same, and which TS an interval covers.
use Rattle.std.specs.Prelude.{Bool, ◌&&◌, ltb, leb, eqb}
use Rattle.figures.specs.Types.{Timestamp, KeyId, Interval, RightName}

-- 01, Frames: IDs are equal when all seven bytes are
unfoldable pub same_id : KeyId → KeyId → Bool
same_id a b =
    eqb a.domain.0 b.domain.0
    && eqb a.domain.1 b.domain.1
    && eqb a.domain.2 b.domain.2
    && eqb a.group b.group
    && eqb a.number b.number

-- 01, Rights: a right is named by ID, TS low, TS high and SPE
unfoldable pub same_name : RightName → RightName → Bool
same_name a b =
    same_id a.id b.id
    && eqb a.interval.low.0 b.interval.low.0
    && eqb a.interval.high.0 b.interval.high.0
    && eqb a.spe b.spe

-- the ID of a free place
unfoldable pub no_id : KeyId
no_id = record { domain = record { 0 = 0; 1 = 0; 2 = 0 }; group = 0; number = 0 }

-- 01, What a short term message does: TS low < TS, TS <= TS high
unfoldable pub covers : Interval → Timestamp → Bool
covers v ts = ltb v.low.0 ts.0 && leb ts.0 v.high.0

-- 01, Replies, 14: TS low >= TS high
unfoldable pub empty : Interval → Bool
empty v = leb v.high.0 v.low.0

-- 01, What a short term message does: live when TS is greater than the key's replay counter
unfoldable pub live : Timestamp → Timestamp → Bool
live replay ts = ltb replay.0 ts.0
