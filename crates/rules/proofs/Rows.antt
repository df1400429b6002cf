-- How a row of a table of cases is written: byte strings put together by hand, and the reply and key buffer that the last call leaves.
-- No definition of the frame reader or writer is used, so that a slip there cannot hide. Assumes nothing.
use Prim.Native.Nat.{ℕ, ◌+◌, ◌*◌, ◌-◌, ◌/◌, ◌%◌}
use Prim.Native.Char.{Char, code}
use Prim.Native.String.{String}
use mathlib.Core.List.{List, [], ◌∷◌, ◌++◌, map}
use lib.ListN.{replicate}
use lib.Dec.{ltb}
use Rattle.std.specs.Prelude.{if◌then◌else◌}
use Rattle.figures.specs.Limits.{key_bytes}
use Rattle.rules.specs.Pages.{Pages, empty_book}
use Rattle.rules.specs.Calls.{After}
use Rattle.rules.specs.Replies.{reply_bytes}
use Rattle.rules.specs.Rules.{call}

-- ## Bytes

-- the value of an upper-case hexadecimal digit
abbrev pub digit : Char → ℕ
digit c = if ltb (code c) 58 then code c - 48 else code c - 55

-- two digits a byte
abbrev pub hex : String → List ℕ
hex String.[] = []
hex (String.◌∷◌ c String.[]) = []
hex (String.◌∷◌ c (String.◌∷◌ d s)) = (digit c * 16 + digit d) ∷ hex s

-- a number's four bytes, the highest first
abbrev pub word : ℕ → List ℕ
word n = n / 0x1000000 % 256 ∷ n / 0x10000 % 256 ∷ n / 0x100 % 256 ∷ n % 256 ∷ []

-- IDs that differ in their last byte; that of the paper's example is `id 2`
abbrev pub id : ℕ → List ℕ
id n = hex "0A0B0C000100" ++ (n ∷ [])

-- sixteen key bytes, from n up; those of the paper's example are `key 0`
abbrev pub key : ℕ → List ℕ
key n = map (λ b. n + b) (hex "000102030405060708090A0B0C0D0E0F")

abbrev pub no_key : List ℕ
no_key = []

-- ## Calls

-- a byte string, and the key buffer lent with it
pub record Sent : Type 0 where
  pub bytes : List ℕ
  pub lent : List ℕ

-- a key buffer of this length, as lent
abbrev pub buffer : ℕ → List ℕ
buffer n = replicate n 0xEE

abbrev pub send : List ℕ → Sent
send s = record { bytes = s; lent = buffer key_bytes }

-- the same with a buffer of another length
abbrev pub lending : ℕ → Sent → Sent
lending n s = record { bytes = s.bytes; lent = buffer n }

-- ID, TS low, TS high, SPE, flags (01 add, 02 key present), amount, cost, key
abbrev pub load : List ℕ → ℕ → ℕ → ℕ → ℕ → ℕ → ℕ → List ℕ → Sent
load i low high spe flags amount cost k =
    send ((0x01 ∷ i) ++ word low ++ word high ++ (spe ∷ flags ∷ word amount) ++ word cost ++ k)

-- ID, TS, integrity mark
abbrev pub message : List ℕ → ℕ → ℕ → Sent
message i ts mark = send ((0x02 ∷ i) ++ word ts ++ (mark ∷ []))

-- ID, TS low, TS high, SPE
abbrev pub report : List ℕ → ℕ → ℕ → ℕ → Sent
report i low high spe = send ((0x03 ∷ i) ++ word low ++ word high ++ (spe ∷ []))

abbrev pub delete : List ℕ → ℕ → ℕ → ℕ → Sent
delete i low high spe = send ((0x04 ∷ i) ++ word low ++ word high ++ (spe ∷ []))

-- a load with SPE 0A and nothing else
abbrev pub erase : List ℕ → Sent
erase i = load i 0 0 0x0A 0x00 0 0 no_key

-- ## What is seen of a call

-- the reply's bytes, and the key buffer after it
pub record Seen : Type 0 where
  pub reply : List ℕ
  pub buffer : List ℕ

-- code, place, value, purse, replay counter
abbrev pub reply : ℕ → ℕ → ℕ → ℕ → ℕ → List ℕ
reply c place value purse replay = (c ∷ place ∷ word value) ++ word purse ++ word replay

-- the buffer is as lent
abbrev pub gets : List ℕ → Seen
gets r = record { reply = r; buffer = buffer key_bytes }

-- place, value, purse, replay counter; and the key handed out
abbrev pub granted : ℕ → ℕ → ℕ → ℕ → List ℕ → Seen
granted place value purse replay k = record { reply = reply 0x01 place value purse replay; buffer = k }

abbrev pub loaded : ℕ → ℕ → ℕ → ℕ → Seen
loaded place value purse replay = gets (reply 0x00 place value purse replay)

abbrev pub reported : ℕ → ℕ → ℕ → ℕ → Seen
reported place value purse replay = gets (reply 0x02 place value purse replay)

-- the purse
abbrev pub deleted : ℕ → Seen
deleted purse = gets (reply 0x00 0xFF 0 purse 0)

-- 17, the right held
abbrev pub over_held : ℕ → ℕ → ℕ → ℕ → Seen
over_held place value purse replay = gets (reply 0x17 place value purse replay)

-- 17, the right not held: the purse
abbrev pub over_new : ℕ → Seen
over_new purse = gets (reply 0x17 0xFF 0 purse 0)

-- FF and zeros
abbrev pub refused : ℕ → Seen
refused c = gets (reply c 0xFF 0 0 0)

-- ## Runs from the empty book

-- what is seen of a call
abbrev pub seen : After → Seen
seen a = record { reply = reply_bytes a.reply; buffer = a.buffer }

-- of each call in turn
abbrev pub all_seen : Pages → List Sent → List Seen
all_seen b [] = []
all_seen b (s ∷ ss) = let a = call b s.bytes s.lent in seen a ∷ all_seen a.book ss

-- the book that calls leave
abbrev pub book_after : Pages → List Sent → Pages
book_after b [] = b
book_after b (s ∷ ss) = book_after (call b s.bytes s.lent).book ss

-- of the last call
abbrev pub last_of : Seen → List Seen → Seen
last_of x [] = x
last_of x (y ∷ ys) = last_of y ys

-- ## Rows

-- calls, and what is seen of the last
pub record Row : Type 0 where
  pub name : String
  pub sent : List Sent
  pub expected : Seen

abbrev pub row : String → List Sent → Seen → Row
row n s e = record { name = n; sent = s; expected = e }

-- the same calls on a book, and what the rules let be seen of the last: a row is right where it is the row itself
abbrev pub played_on : Pages → Row → Row
played_on b r = row r.name r.sent (last_of (record { reply = []; buffer = [] }) (all_seen b r.sent))

abbrev pub played : Row → Row
played r = played_on empty_book r
