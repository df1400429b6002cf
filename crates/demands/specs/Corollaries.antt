-- What sells the product: each is a consequence of the laws of one call, over runs of a book that comes from the empty one.
use Rattle.std.specs.Prelude.{ℕ, ◌+◌, ◌≡◌, Bool, true, false, List, [], ◌∷◌}
use Rattle.places.specs.Words.{missing}
use Rattle.figures.specs.Names.{live}
use Rattle.frames.specs.Reading.{reading}
use Rattle.rules.specs.Pages.{Pages, Sizes, key_at, right_in}
use Rattle.rules.specs.Messages.{replay_of}
use Rattle.rules.specs.Replies.{code}
use Rattle.rules.specs.Sound.{Reached}
use Rattle.demands.specs.Types.{Some, TrafficKeys, Timestamp, KeyId, Counted, Purse, Account, Message, Reply, Loaded, Deleted, Granted, Reported, OverHeld, OverNew, Refused, MessageFrame, Ok}
use Rattle.demands.specs.Runs.{Call, called, final, replies}

-- ## No TS is granted twice as live for one ID while its key is held

-- the key of the ID is held after each call of the run
pub data Holding (i : KeyId) : Pages → List Call → Type 0 where
  none : {b : Pages} → Holding i b []
  more : {b : Pages} {c : Call} {cs : List Call} → missing (key_at (called b c).book i) ≡ false → Holding i (called b c).book cs → Holding i b (c ∷ cs)

-- the call is a message for the ID with this TS, live, and it is granted
pub record LiveGrant (i : KeyId) (ts : Timestamp) (b : Pages) (c : Call) : Type 0 where
  pub message : Message
  pub read : (reading c.frame).frame ≡ Ok (MessageFrame message)
  pub for_id : message.id ≡ i
  pub at_ts : message.ts ≡ ts
  pub is_live : live (replay_of b i) ts ≡ true
  pub granted : code (called b c).reply ≡ 0x01

abbrev pub NoTsTwiceLive : Type 0
NoTsTwiceLive =
    (z : Sizes) (b : Pages) → Reached z b → (i : KeyId) (ts : Timestamp) (c : Call) (cs : List Call) (d : Call) → LiveGrant i ts b c → Holding i (called b c).book cs
    → LiveGrant i ts (final (called b c).book cs) d → ⊥

-- a message sent again while its key is held is never charged as live again
abbrev pub RepeatNeverLive : Type 0
RepeatNeverLive =
    (z : Sizes) (b : Pages) → Reached z b → (i : KeyId) (ts : Timestamp) (c : Call) (cs : List Call) → LiveGrant i ts b c → Holding i (called b c).book cs
    → live (replay_of (final (called b c).book cs) i) ts ≡ false

-- ## What grants took from the purse is what the purse lost

abbrev pub paid_from_purse : Account → ℕ
paid_from_purse (Counted left) = 0
paid_from_purse (Purse cost) = cost.0

-- what a reply says was taken from the purse
unfoldable pub took : Reply → ℕ
took (Granted s) = paid_from_purse s.account
took (Loaded s) = 0
took (Deleted p) = 0
took (Reported s) = 0
took (OverHeld s) = 0
took (OverNew p) = 0
took (Refused r) = 0

unfoldable pub took_all : List Reply → ℕ
took_all [] = 0
took_all (r ∷ rs) = took r + took_all rs

-- a reply to a load that was done
unfoldable pub is_loaded : Reply → Bool
is_loaded (Loaded s) = true
is_loaded (Deleted p) = false
is_loaded (Granted s) = false
is_loaded (Reported s) = false
is_loaded (OverHeld s) = false
is_loaded (OverNew p) = false
is_loaded (Refused r) = false

abbrev pub NoLoads : List Reply → Type 0
NoLoads [] = Unit {0}
NoLoads (r ∷ rs) = (is_loaded r ≡ false) × NoLoads rs

abbrev pub PurseLosesWhatGrantsTook : Type 0
PurseLosesWhatGrantsTook =
    (z : Sizes) (b : Pages) → Reached z b → (cs : List Call) → NoLoads (replies b cs) → b.purse.0 ≡ (final b cs).purse.0 + took_all (replies b cs)

-- ## An exhausted right stays held and pays nothing

abbrev pub ExhaustedStays : Type 0
ExhaustedStays =
    (z : Sizes) (b : Pages) → Reached z b → (c : Call) (m : Message) → (reading c.frame).frame ≡ Ok (MessageFrame m)
    → (p : ℕ) (none : TrafficKeys) → (right_in b (Some p)).account ≡ Counted none → none.0 ≡ 0 → right_in (called b c).book (Some p) ≡ right_in b (Some p)
