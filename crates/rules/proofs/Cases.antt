-- The paper's worked cases: P1 to P12 of 01, Cases at the edges, and the eight lines of 01, The line program. Assumes nothing.
use Prim.Native.Nat.{ℕ}
use Prim.Native.String.{String}
use mathlib.Core.Path.{◌≡◌, refl}
use mathlib.Core.List.{List, [], ◌∷◌, map}
use Rattle.rules.specs.Pages.{empty_book}
use Rattle.rules.specs.Opener.{all_rules}
use Rattle.rules.proofs.Rows.{hex, id, key, no_key, Sent, send, load, message, report, granted, loaded, reported, over_held, over_new, refused, all_seen, Row, row, played}

-- a new ID, 0C right with counter 5, interval 100 to 200
abbrev five : Sent
five = load (id 2) 100 200 0x0C 0x02 5 0 (key 0)

-- the purse set to an amount, with a live right that costs 3 tokens
abbrev purse : ℕ → Sent
purse amount = load (id 2) 100 200 0x02 0x02 amount 3 (key 0)

unfoldable pub table : List Row
table =
    row "P1" (five ∷ message (id 2) 100 0x01 ∷ []) (refused 0x19)
    ∷ row "P1" (five ∷ message (id 2) 101 0x01 ∷ []) (granted 0 4 0 101 (key 0))
    ∷ row "P2" (five ∷ message (id 2) 200 0x01 ∷ []) (granted 0 4 0 200 (key 0))
    ∷ row "P2" (five ∷ message (id 2) 201 0x01 ∷ []) (refused 0x19)
    ∷ row "P3" (five ∷ message (id 2) 150 0x01 ∷ message (id 2) 150 0x01 ∷ []) (refused 0x19)
    ∷ row "P4" (five ∷ load (id 2) 100 200 0x0D 0x00 1 0 no_key ∷ message (id 2) 150 0x01 ∷ message (id 2) 150 0x01 ∷ []) (granted 1 0 0 150 (key 0))
    ∷ row "P5" (load (id 2) 100 200 0x0C 0x02 4194303 0 (key 0) ∷ []) (loaded 0 4194303 0 0)
    ∷ row "P5" (load (id 2) 100 200 0x0C 0x02 4194304 0 (key 0) ∷ []) (over_new 0)
    ∷ row "P5" (five ∷ load (id 2) 100 200 0x0C 0x00 4194303 0 no_key ∷ []) (loaded 0 4194303 0 0)
    ∷ row "P5" (five ∷ load (id 2) 100 200 0x0C 0x00 4194304 0 no_key ∷ []) (over_held 0 5 0 0)
    ∷ row "P6" (load (id 2) 100 200 0x0D 0x02 8388607 0 (key 0) ∷ []) (loaded 0 8388607 0 0)
    ∷ row "P7" (purse 134217727 ∷ load (id 2) 100 200 0x02 0x01 0 3 no_key ∷ []) (loaded 0 3 134217727 0)
    ∷ row "P7" (purse 134217727 ∷ load (id 2) 100 200 0x02 0x01 1 3 no_key ∷ []) (over_held 0 3 134217727 0)
    ∷ row "P7" (purse 134217727 ∷ load (id 2) 100 200 0x02 0x01 1 3 no_key ∷ report (id 2) 100 200 0x02 ∷ []) (reported 0 3 134217727 0)
    ∷ row "P8" (purse 10 ∷ message (id 2) 101 0x01 ∷ message (id 2) 102 0x01 ∷ message (id 2) 103 0x01 ∷ []) (granted 0 3 1 103 (key 0))
    ∷ row "P8" (purse 10 ∷ message (id 2) 101 0x01 ∷ message (id 2) 102 0x01 ∷ message (id 2) 103 0x01 ∷ message (id 2) 104 0x01 ∷ []) (refused 0x1A)
    ∷ row "P9" (load (id 2) 100 200 0x0C 0x03 5 0 (key 0) ∷ []) (loaded 0 5 0 0)
    ∷ row "P10" (load (id 2) 100 200 0x0C 0x03 5 0 (key 0) ∷ load (id 2) 100 200 0x0C 0x00 2 0 no_key ∷ []) (loaded 0 2 0 0)
    ∷ row "P11" (load (id 2) 100 100 0x0C 0x02 5 0 (key 0) ∷ []) (refused 0x14)
    ∷ row "P12" (message (id 2) 101 0x00 ∷ []) (refused 0x18)
    ∷ []

-- P1 to P12
pub edges : map played table ≡ table
unfolding all_rules table
edges = refl

-- ## The eight lines

abbrev pub input : List String
input =
    "010A0B0C0001000200000064000000C80C020000000200000000000102030405060708090A0B0C0D0E0F"
    ∷ "020A0B0C000100020000006401"
    ∷ "020A0B0C000100020000006501"
    ∷ "020A0B0C000100020000006501"
    ∷ "020A0B0C000100020000006601"
    ∷ "020A0B0C000100020000006701"
    ∷ "030A0B0C0001000200000064000000C80C"
    ∷ "010A0B0C0001000200000000000000000A000000000000000000"
    ∷ []

abbrev pub output : List String
output =
    "0000000000020000000000000000"
    ∷ "19FF000000000000000000000000"
    ∷ "0100000000010000000000000065"
    ∷ "19FF000000000000000000000000"
    ∷ "0100000000000000000000000066"
    ∷ "1AFF000000000000000000000000"
    ∷ "0200000000000000000000000066"
    ∷ "00FF000000000000000000000000"
    ∷ []

pub eight : map (λ s. s.reply) (all_seen empty_book (map (λ l. send (hex l)) input)) ≡ map hex output
unfolding all_rules
eight = refl
