-- Cases that P1 to P12 cannot tell apart, worked out by hand from 01 and computed like those. Assumes nothing.
use Prim.Native.Nat.{ℕ, zero, suc}
use mathlib.Core.Path.{◌≡◌, refl}
use mathlib.Core.List.{List, [], ◌∷◌, ◌++◌, map}
use lib.ListN.{replicate}
use Rattle.figures.specs.Limits.{key_places, right_places}
use Rattle.figures.specs.Keys.{zeros}
use Rattle.rules.specs.Pages.{Pages, blank, empty_book}
use Rattle.rules.specs.Opener.{all_rules}
use Rattle.rules.proofs.Rows.{hex, id, key, no_key, Sent, send, buffer, lending, load, message, report, delete, erase, Seen, reply, granted, loaded, reported, deleted, over_held, over_new, refused, book_after, Row, row, played_on, played}

-- ## Calls that many rows begin with; all rights are of TS 100 to 200 where no interval is given

-- a new ID, live right with a counter
abbrev live : ℕ → Sent
live amount = load (id 2) 100 200 0x0C 0x02 amount 0 (key 0)

-- the ID held, playback right with a counter
abbrev playback : ℕ → Sent
playback amount = load (id 2) 100 200 0x0D 0x00 amount 0 no_key

-- the ID held, live right with a counter, wider interval
abbrev wider : ℕ → Sent
wider amount = load (id 2) 90 210 0x0C 0x00 amount 0 no_key

-- the purse set to an amount, live right with a cost
abbrev purse : ℕ → ℕ → Sent
purse amount cost = load (id 2) 100 200 0x02 0x02 amount cost (key 0)

-- another ID, live right with a counter, another key
abbrev other : ℕ → Sent
other amount = load (id 3) 100 200 0x0C 0x02 amount 0 (key 16)

abbrev tell : ℕ → Sent
tell ts = message (id 2) ts 0x01

-- 10, the buffer of this length as lent
abbrev unlent : ℕ → Seen
unlent n = record { reply = reply 0x10 0xFF 0 0 0; buffer = buffer n }

-- ## Messages: who fits, who pays, what a grant leaves

unfoldable pub messages : List Row
messages =
    row "playback below the replay counter leaves it" (live 5 ∷ playback 1 ∷ tell 150 ∷ tell 120 ∷ []) (granted 1 0 0 150 (key 0))
    ∷ row "a live grant sets the replay counter" (live 5 ∷ tell 150 ∷ tell 151 ∷ []) (granted 0 3 0 151 (key 0))
    ∷ row "below the replay counter, only live rights" (live 5 ∷ tell 150 ∷ tell 120 ∷ []) (refused 0x19)
    ∷ row "live, only playback rights" (load (id 2) 100 200 0x0D 0x02 5 0 (key 0) ∷ tell 150 ∷ []) (refused 0x19)
    ∷ row "TS in the upper half is live" (load (id 2) 0 0xFFFFFFFF 0x0C 0x02 5 0 (key 0) ∷ tell 0xFFFFFFFF ∷ []) (granted 0 4 0 0xFFFFFFFF (key 0))
    ∷ row "TS does not wrap" (load (id 2) 0 0xFFFFFFFF 0x0C 0x02 5 0 (key 0) ∷ tell 0xFFFFFFFF ∷ tell 5 ∷ []) (refused 0x19)
    ∷ row "the lowest place pays" (live 5 ∷ wider 7 ∷ tell 150 ∷ []) (granted 0 4 0 150 (key 0))
    ∷ row "the lowest place pays, purse before counter" (purse 10 3 ∷ wider 7 ∷ tell 150 ∷ []) (granted 0 3 7 150 (key 0))
    ∷ row "the second pays, no key left in the first" (live 0 ∷ wider 7 ∷ tell 150 ∷ []) (granted 1 6 0 150 (key 0))
    ∷ row "the second pays, the first too dear" (purse 10 11 ∷ load (id 2) 90 210 0x02 0x01 0 4 no_key ∷ tell 150 ∷ []) (granted 1 4 6 150 (key 0))
    ∷ row "the second pays, the first exhausted" (live 1 ∷ wider 7 ∷ tell 150 ∷ tell 151 ∷ []) (granted 1 6 0 151 (key 0))
    ∷ row "playback from the purse" (live 5 ∷ load (id 2) 100 200 0x03 0x00 10 3 no_key ∷ tell 150 ∷ tell 150 ∷ []) (granted 1 3 7 150 (key 0))
    ∷ row "cost 0 pays with purse 0" (purse 0 0 ∷ tell 150 ∷ []) (granted 0 0 0 150 (key 0))
    ∷ row "purse equal to the cost" (purse 3 3 ∷ tell 150 ∷ []) (granted 0 3 0 150 (key 0))
    ∷ row "purse one below the cost" (purse 2 3 ∷ tell 150 ∷ []) (refused 0x1A)
    ∷ row "charged once from the counter" (live 5 ∷ tell 150 ∷ report (id 2) 100 200 0x0C ∷ []) (reported 0 4 0 150)
    ∷ row "charged once from the purse" (purse 10 3 ∷ tell 150 ∷ report (id 2) 100 200 0x02 ∷ []) (reported 0 3 7 150)
    ∷ row "a counter's grant leaves the purse" (purse 10 11 ∷ wider 7 ∷ tell 150 ∷ []) (granted 1 6 10 150 (key 0))
    ∷ row "another right is not charged" (live 5 ∷ wider 7 ∷ tell 150 ∷ report (id 2) 90 210 0x0C ∷ []) (reported 1 7 0 150)
    ∷ row "an exhausted right stays held" (live 1 ∷ tell 150 ∷ tell 160 ∷ report (id 2) 100 200 0x0C ∷ []) (reported 0 0 0 150)
    ∷ row "18 alters nothing" (live 5 ∷ message (id 2) 150 0x00 ∷ report (id 2) 100 200 0x0C ∷ []) (reported 0 5 0 0)
    ∷ row "19 alters nothing" (live 5 ∷ tell 201 ∷ report (id 2) 100 200 0x0C ∷ []) (reported 0 5 0 0)
    ∷ row "1A alters nothing" (purse 2 3 ∷ tell 150 ∷ report (id 2) 100 200 0x02 ∷ []) (reported 0 3 2 0)
    ∷ row "the right of the message's ID" (live 5 ∷ other 7 ∷ message (id 3) 150 0x01 ∷ []) (granted 1 6 0 150 (key 16))
    ∷ row "the replay counter is the key's" (live 5 ∷ other 7 ∷ tell 150 ∷ report (id 3) 100 200 0x0C ∷ []) (reported 1 7 0 0)
    ∷ row "the replay counter is that of all the key's rights" (live 5 ∷ wider 7 ∷ tell 150 ∷ report (id 2) 90 210 0x0C ∷ []) (reported 1 7 0 150)
    ∷ row "18 before 19" (live 5 ∷ message (id 2) 100 0x00 ∷ []) (refused 0x18)
    ∷ row "18 before 1A" (live 0 ∷ message (id 2) 150 0x00 ∷ []) (refused 0x18)
    ∷ row "15, no key held" (tell 150 ∷ []) (refused 0x15)
    ∷ row "15 before 19, another key held" (live 5 ∷ message (id 3) 150 0x01 ∷ []) (refused 0x15)
    ∷ row "19 before 1A" (live 0 ∷ tell 201 ∷ []) (refused 0x19)
    ∷ row "1A, what could pay does not fit" (live 0 ∷ playback 5 ∷ tell 150 ∷ []) (refused 0x1A)
    ∷ row "IDs differ in byte 1" (live 5 ∷ message (hex "0B0B0C00010002") 150 0x01 ∷ []) (refused 0x15)
    ∷ row "IDs differ in byte 2" (live 5 ∷ message (hex "0A0A0C00010002") 150 0x01 ∷ []) (refused 0x15)
    ∷ row "IDs differ in byte 3" (live 5 ∷ message (hex "0A0B0B00010002") 150 0x01 ∷ []) (refused 0x15)
    ∷ row "IDs differ in byte 4" (live 5 ∷ message (hex "0A0B0C01010002") 150 0x01 ∷ []) (refused 0x15)
    ∷ row "IDs differ in byte 5" (live 5 ∷ message (hex "0A0B0C00020002") 150 0x01 ∷ []) (refused 0x15)
    ∷ row "IDs differ in byte 6" (live 5 ∷ message (hex "0A0B0C00010102") 150 0x01 ∷ []) (refused 0x15)
    ∷ row "IDs differ in byte 7" (live 5 ∷ message (hex "0A0B0C00010003") 150 0x01 ∷ []) (refused 0x15)
    ∷ row "15, an ID of zeros" (message (hex "00000000000000") 150 0x01 ∷ []) (refused 0x15)
    ∷ []

-- ## Loads: accounts, purse, key and limits

unfoldable pub loads : List Row
loads =
    row "add raises the counter" (live 5 ∷ load (id 2) 100 200 0x0C 0x01 3 0 no_key ∷ []) (loaded 0 8 0 0)
    ∷ row "a new right counts from 0, another of the ID held" (live 5 ∷ load (id 2) 100 200 0x0D 0x01 7 0 no_key ∷ []) (loaded 1 7 0 0)
    ∷ row "add raises the purse, the right new" (purse 10 3 ∷ load (id 2) 100 200 0x03 0x01 5 2 no_key ∷ []) (loaded 1 2 15 0)
    ∷ row "add raises the purse, the ID new" (purse 10 3 ∷ load (id 3) 100 200 0x02 0x03 5 2 (key 16) ∷ []) (loaded 1 2 15 0)
    ∷ row "set replaces purse and cost" (purse 10 3 ∷ purse 4 5 ∷ []) (loaded 0 5 4 0)
    ∷ row "add 0 replaces the cost alone" (purse 10 3 ∷ load (id 2) 100 200 0x02 0x01 0 5 no_key ∷ []) (loaded 0 5 10 0)
    ∷ row "a cost stands for its right alone" (purse 10 3 ∷ load (id 2) 90 210 0x02 0x01 0 5 no_key ∷ report (id 2) 100 200 0x02 ∷ []) (reported 0 3 10 0)
    ∷ row "a counter's load leaves the purse" (purse 10 3 ∷ wider 7 ∷ []) (loaded 1 7 10 0)
    ∷ row "another TS low, another right" (live 5 ∷ load (id 2) 101 200 0x0C 0x00 7 0 no_key ∷ []) (loaded 1 7 0 0)
    ∷ row "another TS high, another right" (live 5 ∷ load (id 2) 100 201 0x0C 0x00 7 0 no_key ∷ []) (loaded 1 7 0 0)
    ∷ row "a load keeps the replay counter" (live 5 ∷ tell 150 ∷ live 5 ∷ []) (loaded 0 5 0 150)
    ∷ row "a load without key keeps the key" (live 5 ∷ playback 7 ∷ tell 150 ∷ []) (granted 0 4 0 150 (key 0))
    ∷ row "a load's key is that of all the ID's rights" (live 5 ∷ load (id 2) 100 200 0x0D 0x02 7 0 (key 16) ∷ tell 150 ∷ []) (granted 0 4 0 150 (key 16))
    ∷ row "another ID's key stays" (live 5 ∷ other 7 ∷ tell 150 ∷ []) (granted 0 4 0 150 (key 0))
    ∷ row "counter to the limit by add" (live 4194302 ∷ load (id 2) 100 200 0x0C 0x01 1 0 no_key ∷ []) (loaded 0 4194303 0 0)
    ∷ row "counter past the limit by add" (live 4194303 ∷ load (id 2) 100 200 0x0C 0x01 1 0 no_key ∷ []) (over_held 0 4194303 0 0)
    ∷ row "counter's sum does not wrap" (live 5 ∷ load (id 2) 100 200 0x0C 0x01 0xFFFFFFFB 0 no_key ∷ []) (over_held 0 5 0 0)
    ∷ row "playback counter past the limit" (load (id 2) 100 200 0x0D 0x02 8388608 0 (key 0) ∷ []) (over_new 0)
    ∷ row "playback counter past the limit by add" (load (id 2) 100 200 0x0D 0x02 8388607 0 (key 0) ∷ load (id 2) 100 200 0x0D 0x01 1 0 no_key ∷ []) (over_held 0 8388607 0 0)
    ∷ row "purse set at the limit" (purse 134217727 3 ∷ []) (loaded 0 3 134217727 0)
    ∷ row "purse set past the limit" (purse 134217728 3 ∷ []) (over_new 0)
    ∷ row "purse to the limit by add" (purse 134217726 3 ∷ load (id 2) 100 200 0x03 0x01 1 2 no_key ∷ []) (loaded 1 2 134217727 0)
    ∷ row "purse set past the limit by playback" (load (id 2) 100 200 0x03 0x02 134217728 3 (key 0) ∷ []) (over_new 0)
    ∷ row "purse's sum does not wrap" (purse 10 3 ∷ load (id 2) 100 200 0x02 0x01 0xFFFFFFF6 3 no_key ∷ []) (over_held 0 3 10 0)
    ∷ row "no limit on a cost" (purse 10 0xFFFFFFFF ∷ []) (loaded 0 0xFFFFFFFF 10 0)
    ∷ row "17 keeps purse and cost" (purse 10 3 ∷ load (id 2) 100 200 0x02 0x01 134217718 9 no_key ∷ report (id 2) 100 200 0x02 ∷ []) (reported 0 3 10 0)
    ∷ row "17 keeps the key" (purse 10 3 ∷ load (id 2) 100 200 0x02 0x03 134217718 9 (key 16) ∷ tell 150 ∷ []) (granted 0 3 7 150 (key 0))
    ∷ row "17 keeps the counter" (live 5 ∷ load (id 2) 100 200 0x0C 0x00 4194304 0 no_key ∷ report (id 2) 100 200 0x0C ∷ []) (reported 0 5 0 0)
    ∷ row "17 keeps the key of a counter" (live 5 ∷ load (id 2) 100 200 0x0C 0x03 4194303 0 (key 16) ∷ tell 150 ∷ []) (granted 0 4 0 150 (key 0))
    ∷ row "17, held: as held" (purse 10 3 ∷ tell 150 ∷ load (id 2) 100 200 0x02 0x01 134217721 3 no_key ∷ []) (over_held 0 3 7 150)
    ∷ row "17, the ID held and the right not" (purse 10 3 ∷ tell 150 ∷ playback 8388608 ∷ []) (over_new 7)
    ∷ row "17 makes no right" (live 5 ∷ playback 8388608 ∷ report (id 2) 100 200 0x0D ∷ []) (refused 0x1B)
    ∷ row "17 makes no key" (purse 10 3 ∷ other 4194304 ∷ message (id 3) 150 0x01 ∷ []) (refused 0x15)
    ∷ []

-- ## Deletions: what goes and what stays

unfoldable pub deletions : List Row
deletions =
    row "0A done" (purse 10 3 ∷ tell 150 ∷ erase (id 2) ∷ []) (deleted 7)
    ∷ row "0A whatever its TS fields" (live 5 ∷ load (id 2) 200 100 0x0A 0x00 0 0 no_key ∷ []) (deleted 0)
    ∷ row "0A removes every interval, the first" (live 5 ∷ wider 7 ∷ load (id 2) 90 210 0x0A 0x00 0 0 no_key ∷ report (id 2) 100 200 0x0C ∷ []) (refused 0x1B)
    ∷ row "0A removes every interval, the second" (live 5 ∷ wider 7 ∷ load (id 2) 100 200 0x0A 0x00 0 0 no_key ∷ report (id 2) 90 210 0x0C ∷ []) (refused 0x1B)
    ∷ row "0A removes every SPE" (purse 10 3 ∷ playback 7 ∷ erase (id 2) ∷ report (id 2) 100 200 0x0D ∷ []) (refused 0x1B)
    ∷ row "0A removes the key" (live 5 ∷ erase (id 2) ∷ tell 150 ∷ []) (refused 0x15)
    ∷ row "0A removes the replay counter" (live 5 ∷ tell 150 ∷ erase (id 2) ∷ live 5 ∷ []) (loaded 0 5 0 0)
    ∷ row "0A leaves another ID's key" (live 5 ∷ other 7 ∷ erase (id 2) ∷ message (id 3) 150 0x01 ∷ []) (granted 1 6 0 150 (key 16))
    ∷ row "0A leaves the purse" (purse 10 3 ∷ other 7 ∷ erase (id 2) ∷ report (id 3) 100 200 0x0C ∷ []) (reported 1 7 10 0)
    ∷ row "kind 04 done" (purse 10 3 ∷ tell 150 ∷ delete (id 2) 100 200 0x02 ∷ []) (deleted 7)
    ∷ row "kind 04 removes the right" (live 5 ∷ wider 7 ∷ delete (id 2) 100 200 0x0C ∷ report (id 2) 100 200 0x0C ∷ []) (refused 0x1B)
    ∷ row "kind 04 leaves the other right" (live 5 ∷ wider 7 ∷ delete (id 2) 100 200 0x0C ∷ report (id 2) 90 210 0x0C ∷ []) (reported 1 7 0 0)
    ∷ row "kind 04 leaves the purse" (purse 10 3 ∷ wider 7 ∷ delete (id 2) 100 200 0x02 ∷ report (id 2) 90 210 0x0C ∷ []) (reported 1 7 10 0)
    ∷ row "one of two deleted, the key stays" (live 5 ∷ playback 7 ∷ tell 150 ∷ delete (id 2) 100 200 0x0C ∷ tell 120 ∷ []) (granted 1 6 0 150 (key 0))
    ∷ row "the last deleted, the key goes" (live 5 ∷ delete (id 2) 100 200 0x0C ∷ tell 150 ∷ []) (refused 0x15)
    ∷ row "the last deleted, a load must carry a key" (live 5 ∷ delete (id 2) 100 200 0x0C ∷ playback 7 ∷ []) (refused 0x15)
    ∷ row "the last deleted, the replay counter goes" (live 5 ∷ tell 150 ∷ delete (id 2) 100 200 0x0C ∷ live 5 ∷ []) (loaded 0 5 0 0)
    ∷ row "the last deleted, an ID of zeros"
    (load (hex "00000000000000") 100 200 0x0C 0x02 5 0 (key 0) ∷ delete (hex "00000000000000") 100 200 0x0C ∷ message (hex "00000000000000") 150 0x01 ∷ [])
    (refused 0x15)
    ∷ row "both deleted, the key goes" (live 5 ∷ wider 7 ∷ delete (id 2) 90 210 0x0C ∷ delete (id 2) 100 200 0x0C ∷ tell 150 ∷ []) (refused 0x15)
    ∷ row "the last deleted, another ID's key stays" (live 5 ∷ other 7 ∷ delete (id 2) 100 200 0x0C ∷ message (id 3) 150 0x01 ∷ []) (granted 1 6 0 150 (key 16))
    ∷ row "a right made again counts from 0" (live 5 ∷ wider 7 ∷ delete (id 2) 100 200 0x0C ∷ load (id 2) 100 200 0x0C 0x01 3 0 no_key ∷ []) (loaded 0 3 0 0)
    ∷ row "a freed place is used again" (live 5 ∷ wider 7 ∷ delete (id 2) 100 200 0x0C ∷ playback 9 ∷ []) (loaded 0 9 0 0)
    ∷ row "the lowest free place first"
    (live 5 ∷ wider 7 ∷ playback 9 ∷ delete (id 2) 90 210 0x0C ∷ delete (id 2) 100 200 0x0C ∷ load (id 2) 80 220 0x0C 0x00 1 0 no_key ∷ [])
    (loaded 0 1 0 0)
    ∷ row "then the next"
    (live 5 ∷ wider 7 ∷ playback 9 ∷ delete (id 2) 90 210 0x0C ∷ delete (id 2) 100 200 0x0C ∷ load (id 2) 80 220 0x0C 0x00 1 0 no_key
    ∷ load (id 2) 70 230 0x0C 0x00 2 0 no_key ∷ [])
    (loaded 1 2 0 0)
    ∷ row "places freed by 0A" (live 5 ∷ other 7 ∷ wider 9 ∷ erase (id 2) ∷ load (id 3) 90 210 0x0C 0x00 1 0 no_key ∷ []) (loaded 0 1 0 0)
    ∷ row "a report alters nothing" (live 5 ∷ report (id 2) 100 200 0x0C ∷ report (id 2) 100 200 0x0C ∷ []) (reported 0 5 0 0)
    ∷ []

-- ## Refusals, and which comes first where two apply

unfoldable pub refusals : List Row
refusals =
    row "10, buffer shorter" (lending 15 (live 5) ∷ []) (unlent 15)
    ∷ row "10, buffer longer" (lending 17 (live 5) ∷ []) (unlent 17)
    ∷ row "10, no buffer" (lending 0 (live 5) ∷ []) (unlent 0)
    ∷ row "10 before 11" (lending 15 (send []) ∷ []) (unlent 15)
    ∷ row "10 before 18" (lending 17 (message (id 2) 150 0x00) ∷ []) (unlent 17)
    ∷ row "10 alters nothing" (lending 15 (live 5) ∷ report (id 2) 100 200 0x0C ∷ []) (refused 0x1B)
    ∷ row "11, no byte" (send [] ∷ []) (refused 0x11)
    ∷ row "11, kind 00" (send (hex "000A0B0C000100020000009601") ∷ []) (refused 0x11)
    ∷ row "11, kind 05" (send (hex "050A0B0C0001000200000064000000C80C") ∷ []) (refused 0x11)
    ∷ row "11, flag of a key and no key" (load (id 2) 100 200 0x0C 0x02 5 0 no_key ∷ []) (refused 0x11)
    ∷ row "11, a key and no flag of one" (load (id 2) 100 200 0x0C 0x00 5 0 (key 0) ∷ []) (refused 0x11)
    ∷ row "11, flag bit 2" (load (id 2) 100 200 0x0C 0x04 5 0 no_key ∷ []) (refused 0x11)
    ∷ row "11, flag bit 7" (load (id 2) 100 200 0x0C 0x82 5 0 (key 0) ∷ []) (refused 0x11)
    ∷ row "11, a byte more" (load (id 2) 100 200 0x0C 0x02 5 0 (key 0 ++ (0 ∷ [])) ∷ []) (refused 0x11)
    ∷ row "11, a byte less" (send (hex "020A0B0C0001000200000096") ∷ []) (refused 0x11)
    ∷ row "11, mark 02" (message (id 2) 150 0x02 ∷ []) (refused 0x11)
    ∷ row "11 before 12" (load (id 2) 100 200 0x04 0x04 5 0 no_key ∷ []) (refused 0x11)
    ∷ row "11 before 18" (send (hex "020A0B0C00010002000000960000") ∷ []) (refused 0x11)
    ∷ row "12, load" (load (id 2) 100 200 0x04 0x02 5 0 (key 0) ∷ []) (refused 0x12)
    ∷ row "12 before 14" (load (id 2) 200 100 0x04 0x02 5 0 (key 0) ∷ []) (refused 0x12)
    ∷ row "12 before 15" (load (id 2) 100 200 0x04 0x00 5 0 no_key ∷ []) (refused 0x12)
    ∷ row "12, whatever the cost" (load (id 2) 100 200 0x00 0x02 5 1 (key 0) ∷ []) (refused 0x12)
    ∷ row "13, live counter with a cost" (load (id 2) 100 200 0x0C 0x02 5 1 (key 0) ∷ []) (refused 0x13)
    ∷ row "13, playback counter with a cost" (load (id 2) 100 200 0x0D 0x02 5 1 (key 0) ∷ []) (refused 0x13)
    ∷ row "13 before 14" (load (id 2) 200 100 0x0C 0x02 5 1 (key 0) ∷ []) (refused 0x13)
    ∷ row "14, TS low above TS high" (load (id 2) 200 100 0x0C 0x02 5 0 (key 0) ∷ []) (refused 0x14)
    ∷ row "14, a purse's load" (load (id 2) 100 100 0x03 0x02 5 3 (key 0) ∷ []) (refused 0x14)
    ∷ row "14 before 15" (load (id 2) 100 100 0x0C 0x00 5 0 no_key ∷ []) (refused 0x14)
    ∷ row "14 before 17" (load (id 2) 100 100 0x0C 0x02 4194304 0 (key 0) ∷ []) (refused 0x14)
    ∷ row "15, load without key" (load (id 2) 100 200 0x0C 0x00 5 0 no_key ∷ []) (refused 0x15)
    ∷ row "15, another key held" (other 5 ∷ playback 7 ∷ []) (refused 0x15)
    ∷ row "15 before 17" (load (id 2) 100 200 0x0C 0x00 4194304 0 no_key ∷ []) (refused 0x15)
    ∷ row "13, 0A with add" (live 5 ∷ load (id 2) 0 0 0x0A 0x01 0 0 no_key ∷ []) (refused 0x13)
    ∷ row "13, 0A with a key" (live 5 ∷ load (id 2) 0 0 0x0A 0x02 0 0 (key 0) ∷ []) (refused 0x13)
    ∷ row "13, 0A with an amount" (live 5 ∷ load (id 2) 0 0 0x0A 0x00 1 0 no_key ∷ []) (refused 0x13)
    ∷ row "13, 0A with a cost" (live 5 ∷ load (id 2) 0 0 0x0A 0x00 0 1 no_key ∷ []) (refused 0x13)
    ∷ row "13 before 1B, 0A" (load (id 2) 0 0 0x0A 0x00 1 0 no_key ∷ []) (refused 0x13)
    ∷ row "1B, 0A" (other 5 ∷ erase (id 2) ∷ []) (refused 0x1B)
    ∷ row "12, report of 0A" (live 5 ∷ report (id 2) 100 200 0x0A ∷ []) (refused 0x12)
    ∷ row "12, deletion of 0A" (live 5 ∷ delete (id 2) 100 200 0x0A ∷ []) (refused 0x12)
    ∷ row "12 before 1B, report" (report (id 2) 100 200 0x04 ∷ []) (refused 0x12)
    ∷ row "12 before 1B, deletion" (delete (id 2) 100 200 0x04 ∷ []) (refused 0x12)
    ∷ row "1B, report" (live 5 ∷ report (id 2) 100 200 0x02 ∷ []) (refused 0x1B)
    ∷ row "1B, report whatever its interval" (live 5 ∷ report (id 2) 200 100 0x0C ∷ []) (refused 0x1B)
    ∷ row "1B, deletion" (live 5 ∷ delete (id 2) 100 201 0x0C ∷ []) (refused 0x1B)
    ∷ row "1B, deletion, alters nothing" (live 5 ∷ delete (id 2) 101 200 0x0C ∷ report (id 2) 100 200 0x0C ∷ []) (reported 0 5 0 0)
    ∷ []

-- ## Full books

-- the nth of the rights of one ID, from TS n to 1000
abbrev right : ℕ → Sent
right n = load (id 2) n 1000 0x0C 0x02 1 0 (key 0)

-- the first rights; then more calls
abbrev rights : ℕ → List Sent → List Sent
rights zero then = then
rights (suc n) then = rights n (right n ∷ then)

-- keys of the first IDs, each with one right; then more calls
abbrev keys : ℕ → List Sent → List Sent
keys zero then = then
keys (suc n) then = keys n (load (id n) 100 200 0x0C 0x02 1 0 (key n) ∷ then)

-- a book of two key places and four right places: the rules do not know how many there are
abbrev small : Pages
small = blank (record { keys = 2; rights = 4 })

unfoldable pub full : List Row
full =
    row "the last right place" (rights 4 []) (loaded 3 1 0 0)
    ∷ row "one right more gets 16" (rights 5 []) (refused 0x16)
    ∷ row "rights full, one freed by kind 04" (rights 4 (delete (id 2) 1 1000 0x0C ∷ right 4 ∷ [])) (loaded 1 1 0 0)
    ∷ row "rights full, a held one is loaded" (rights 4 (load (id 2) 1 1000 0x0C 0x01 4 0 no_key ∷ [])) (loaded 1 5 0 0)
    ∷ row "16, rights full and keys free" (rights 4 (other 5 ∷ [])) (refused 0x16)
    ∷ row "15 before 16" (rights 4 (load (id 3) 100 200 0x0C 0x00 5 0 no_key ∷ [])) (refused 0x15)
    ∷ row "16 before 17" (rights 4 (playback 8388608 ∷ [])) (refused 0x16)
    ∷ row "16 stores no key" (rights 4 (load (id 2) 100 200 0x0D 0x02 5 0 (key 16) ∷ tell 1000 ∷ [])) (granted 0 0 0 1000 (key 0))
    ∷ row "the last key place" (keys 2 []) (loaded 1 1 0 0)
    ∷ row "16, keys full and rights free" (keys 3 []) (refused 0x16)
    ∷ row "keys full, another right of a held one" (keys 2 (load (id 1) 90 210 0x0C 0x00 7 0 no_key ∷ [])) (loaded 2 7 0 0)
    ∷ row "16 before 17, keys full" (keys 2 (load (id 2) 100 200 0x0C 0x02 4194304 0 (key 16) ∷ [])) (refused 0x16)
    ∷ row "keys full, one freed by kind 04" (keys 2 (delete (id 1) 100 200 0x0C ∷ load (id 2) 100 200 0x0C 0x02 1 0 (key 16) ∷ [])) (loaded 1 1 0 0)
    ∷ row "keys full, one freed by 0A" (keys 2 (erase (id 1) ∷ load (id 2) 100 200 0x0C 0x02 1 0 (key 16) ∷ message (id 2) 150 0x01 ∷ [])) (granted 1 0 0 150 (key 16))
    ∷ []

-- 01, Cases at the edges, at the book's own size
unfoldable pub own_size : List Row
own_size =
    row "the 33rd right gets 16" (rights (suc right_places) []) (refused 0x16)
    ∷ row "after a deletion it takes the freed place" (rights right_places (delete (id 2) 7 1000 0x0C ∷ right right_places ∷ [])) (loaded 7 1 0 0)
    ∷ row "the 17th key gets 16" (keys (suc key_places) []) (refused 0x16)
    ∷ []

-- ## All of them

unfoldable pub table : List Row
unfolding messages loads deletions refusals
table = messages ++ loads ++ deletions ++ refusals

pub beyond : map played table ≡ table
unfolding all_rules table
beyond = refl

pub when_full : map (λ r. played_on small r) full ≡ full
unfolding all_rules full
when_full = refl

pub at-own_size : map played own_size ≡ own_size
unfolding all_rules own_size
at-own_size = refl

-- ## Free places, which no reply shows

-- calls after which no key is held
unfoldable pub emptied : List (List Sent)
emptied =
    (live 5 ∷ delete (id 2) 100 200 0x0C ∷ [])
    ∷ (live 5 ∷ tell 150 ∷ erase (id 2) ∷ [])
    ∷ (live 5 ∷ wider 7 ∷ other 9 ∷ tell 150 ∷ delete (id 3) 100 200 0x0C ∷ delete (id 2) 100 200 0x0C ∷ delete (id 2) 90 210 0x0C ∷ [])
    ∷ (live 5 ∷ playback 7 ∷ other 9 ∷ tell 150 ∷ tell 120 ∷ erase (id 2) ∷ erase (id 3) ∷ [])
    ∷ (purse 10 5 ∷ tell 150 ∷ tell 160 ∷ delete (id 2) 100 200 0x02 ∷ [])
    ∷ []

-- each holds what it held in the empty book
pub free_again : map (λ s. book_after empty_book s) emptied ≡ map (λ s. empty_book) emptied
unfolding all_rules emptied
free_again = refl

-- and in the empty book the key bytes are zero
pub free_bytes : map (λ k. k.bytes) empty_book.keys ≡ replicate key_places zeros
unfolding all_rules
free_bytes = refl
