-- Demand 3: key material steers nothing, and a grant hands out one key and no other bytes.
use Rattle.std.specs.Prelude.{ℕ, ◌≡◌, Bool, true, false, ◌&&◌, List, [], ◌∷◌, map, length, take, eqb, if◌then◌else◌}
use Rattle.figures.specs.Names.{same_id}
use Rattle.figures.specs.Keys.{zeros}
use Rattle.frames.specs.Numbers.{total}
use Rattle.frames.specs.Layouts.{load_widths, length_with}
use Rattle.frames.specs.Reading.{reading}
use Rattle.rules.specs.Pages.{Pages, empty_book}
use Rattle.rules.specs.Replies.{code}
use Rattle.demands.specs.Types.{Book, Called, KeyId, Key, Message, LoadFrame, MessageFrame, ReportFrame, DeleteFrame, Seen, Ok, Err}
use Rattle.book.specs.Pages.{pages}
use Rattle.demands.specs.Demand2.{Promised, Ran, told}
use Rattle.demands.specs.Runs.{Call, Event, called, final, events, replies}

-- ## The same but for key bytes

-- two byte strings: the same, or two loads that differ in their sixteen key bytes alone, the bytes after a load's fields
pub data AlikeFrames : List ℕ → List ℕ → Type 0 where
  same : {s : List ℕ} → AlikeFrames s s
  but_key : {s t : List ℕ} → length s ≡ length_with load_widths true → length t ≡ length_with load_widths true
      → take (total load_widths) s ≡ take (total load_widths) t → AlikeFrames s t

-- two runs: call by call alike frames, and key buffers of equal length
pub data AlikeRuns : List Call → List Call → Type 0 where
  none : AlikeRuns [] []
  more : {c d : Call} {cs ds : List Call} → AlikeFrames c.frame d.frame → length c.buffer ≡ length d.buffer → AlikeRuns cs ds
      → AlikeRuns (c ∷ cs) (d ∷ ds)

-- a book without the bytes of its stored keys
abbrev pub blind_key : Key → Key
blind_key k = record { held = k.held; id = k.id; replay = k.replay; bytes = zeros }

unfoldable pub blind : Pages → Pages
blind b = record { keys = map blind_key b.keys; rights = b.rights; purse = b.purse }

-- all replies agree, and the books agree but for stored key bytes
abbrev pub KeysSteerNothing : Type 0
KeysSteerNothing =
    (cs ds : List Call) → AlikeRuns cs ds → (replies empty_book cs ≡ replies empty_book ds) × (blind (final empty_book cs) ≡ blind (final empty_book ds))

-- and so of the code: its replies, and the books that it leaves
abbrev pub CodeKeysSteerNothing : Type 0
CodeKeysSteerNothing =
    (b d e f : Book) (cs ds : List Call) (rs qs : List Called) → pages b ≡ empty_book → pages d ≡ empty_book → AlikeRuns cs ds → Ran b cs rs e → Ran d ds qs f
    → (map (λ r. r.reply) rs ≡ map (λ r. r.reply) qs) × (blind (pages e) ≡ blind (pages f))

-- ## The key that an ID was last given, told from frames and replies only

-- sixteen bytes, or none yet
pub data Given : Type 0 where
  never : Given
  last : List ℕ → Given

-- the frame is a load that carries a key for the ID
unfoldable pub carries_for : KeyId → Seen → Bool
carries_for i (Ok (LoadFrame l)) = l.flags.key && same_id l.name.id i
carries_for i (Ok (MessageFrame m)) = false
carries_for i (Ok (ReportFrame n)) = false
carries_for i (Ok (DeleteFrame n)) = false
carries_for i (Err r) = false

-- an accepted load that carries a key for the ID gives it
unfoldable pub given_by : KeyId → Given → Event → Given
given_by i old e = if eqb (code e.reply) 0x00 && carries_for i (reading e.frame).frame then last (reading e.frame).key else old

unfoldable pub last_given : KeyId → Given → List Event → Given
last_given i old [] = old
last_given i old (e ∷ es) = last_given i (given_by i old e) es

-- the frame is a message, and the buffer holds what its ID was last given
pub record HandsOut (x : Seen) (old : KeyId → Given) (u : List ℕ) : Type 0 where
  pub message : Message
  pub asked : x ≡ Ok (MessageFrame message)
  pub handed : last u ≡ old message.id

-- at each grant the lent buffer holds the key of the latest accepted load that carried one for the ID, and no other bytes; so there was such a load
abbrev pub GrantsHandOutTheKey : Type 0
GrantsHandOutTheKey =
    (cs : List Call) (c : Call) → code (called (final empty_book cs) c).reply ≡ 0x01
    → HandsOut (reading c.frame).frame (λ i. last_given i never (events empty_book cs)) (called (final empty_book cs) c).buffer

-- and so of the code, from the frames sent and the replies given
abbrev pub CodeGrantsHandOutTheKey : Type 0
CodeGrantsHandOutTheKey =
    (b e : Book) (cs : List Call) (rs : List Called) → pages b ≡ empty_book → Ran b cs rs e → (c : Call) (r : Called) (u : List ℕ) → Promised e c r u
    → code r.reply ≡ 0x01 → HandsOut (reading c.frame).frame (λ i. last_given i never (told cs rs)) u
