-- A row of bytes that fills from the front.
use Rattle.std.specs.Prelude.{ℕ, ◌+◌, List, [], ◌∷◌, ◌++◌, length, drop, set, ltb, if◌then◌else◌}
use Rattle.lines.specs.Types.{Row}

-- bytes at the front, and after them what was there before
abbrev pub fronted : List ℕ → List ℕ → List ℕ
fronted l bs = bs ++ drop (length bs) l

-- in a row that holds l, the bytes bs have come
abbrev pub filled : {n : ℕ} → List ℕ → List ℕ → Row n
filled l bs = record { bytes = fronted l bs; count = length bs }

-- one byte more, where there is room
abbrev pub pushed : {n : ℕ} → Row n → ℕ → Row n
pushed {n} r b = if ltb r.count n then record { bytes = set r.bytes r.count b; count = r.count + 1 } else r

-- bytes more, one after another
abbrev pub all_pushed : {n : ℕ} → Row n → List ℕ → Row n
all_pushed r [] = r
all_pushed r (b ∷ bs) = all_pushed (pushed r b) bs
