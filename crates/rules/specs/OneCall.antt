-- The laws of one call on a byte string: 01, What a load does, What a short term message does, and Replies.
use Rattle.std.specs.Prelude.{ℕ, ◌+◌, ◌<◌, ◌≤◌, ◌≡◌, Bool, true, false, List, length, get_or, replicate}
use Rattle.places.specs.Words.{first, missing}
use Rattle.figures.specs.Limits.{key_bytes}
use Rattle.figures.specs.Policies.{is_live, is_counted, is_purse, is_deletion}
use Rattle.figures.specs.Accounts.{counter}
use Rattle.figures.specs.Keys.{free_key, is_key}
use Rattle.figures.specs.Rights.{free_right, is_right, is_of}
use Rattle.frames.specs.Reading.{reading}
use Rattle.rules.specs.Types.{Some, Tokens, TrafficKeys, Timestamp, RightName, Account, Counted, Purse, Right, Key, Load, Message, Shown, Refusal, BufferLength, Reply, Loaded, Deleted, Granted, Reported, OverHeld, OverNew, Refused, LoadFrame, MessageFrame, ReportFrame, DeleteFrame, Ok, Err}
use Rattle.rules.specs.Pages.{Pages, Sizes, blank, key_at, key_in, right_in}
use Rattle.rules.specs.Calls.{After, unchanged}
use Rattle.rules.specs.Messages.{paying}
use Rattle.rules.specs.Replies.{code}
use Rattle.rules.specs.Rules.{call}
use Rattle.rules.specs.Sound.{Sound}

-- ## Place by place; d is what a free place holds

-- no place but k alters
pub record OnlyAt {A : Type 0} (d : A) (k : ℕ) (before after : List A) : Type 0 where
  pub long : length after ≡ length before
  pub others : (j : ℕ) → (j ≡ k → ⊥) → get_or after j d ≡ get_or before j d

-- what passes the test goes, and leaves its place free; no other place alters
pub record Gone {A : Type 0} (is : A → Bool) (d : A) (before after : List A) : Type 0 where
  pub long : length after ≡ length before
  pub gone : (j : ℕ) → is (get_or before j d) ≡ true → get_or after j d ≡ d
  pub others : (j : ℕ) → is (get_or before j d) ≡ false → get_or after j d ≡ get_or before j d

-- 01, Rights: a new key or right takes the lowest free place of its sort; one that is held, its own
pub data Takes {A : Type 0} (is held : A → Bool) (d : A) (l : List A) (k : ℕ) : Type 0 where
  its_own : k < length l → is (get_or l k d) ≡ true → Takes is held d l k
  lowest_free : k < length l → ((j : ℕ) → is (get_or l j d) ≡ false) → held (get_or l k d) ≡ false → ((j : ℕ) → j < k → held (get_or l j d) ≡ true) → Takes is held d l k

-- 01, Replies: place of the right, its account, the purse, and the replay counter of the key
abbrev pub shown : Pages → ℕ → ℕ → Shown
shown b k p = record { place = p; account = (right_in b (Some p)).account; purse = b.purse; replay = (key_in b (Some k)).replay }

-- ## 01, Rights: the empty book

-- every place is free, key bytes zero, and the purse is 0
pub record Empty (b : Pages) : Type 0 where
  pub free_keys : (j : ℕ) → (key_in b (Some j)).held ≡ false
  pub zero_bytes : (j : ℕ) → (key_in b (Some j)).bytes ≡ replicate key_bytes 0
  pub free_rights : (j : ℕ) → (right_in b (Some j)).held ≡ false
  pub no_tokens : b.purse.0 ≡ 0

-- of any size
abbrev pub EmptyBook : Type 0
EmptyBook = (z : Sizes) → Empty (blank z)

-- ## 01, What a short term message does

-- the right has the message's ID, TS low < TS, TS <= TS high
pub record Fits (m : Message) (r : Right) : Type 0 where
  pub held : r.held ≡ true
  pub id : r.name.id ≡ m.id
  pub above_low : r.name.interval.low.0 < m.ts.0
  pub up_to_high : m.ts.0 ≤ r.name.interval.high.0

-- a live grant sets the replay counter to TS, which is greater than before; a playback grant leaves it
pub data Replays (spe : ℕ) (ts : Timestamp) : Timestamp → Timestamp → Type 0 where
  as_live : {before : Timestamp} → is_live spe ≡ true → before.0 < ts.0 → Replays spe ts before ts
  as_playback : {before : Timestamp} → is_live spe ≡ false → ts.0 ≤ before.0 → Replays spe ts before before

-- account and purse, before and after: a counter loses 1, or the purse loses the cost
pub data Pays : Account → Tokens → Account → Tokens → Type 0 where
  from_counter : {before after : TrafficKeys} {purse : Tokens} → before.0 ≡ after.0 + 1 → Pays (Counted before) purse (Counted after) purse
  from_purse : {cost before after : Tokens} → before.0 ≡ after.0 + cost.0 → Pays (Purse cost) before (Purse cost) after

-- the key in place k and the right in place p may alter in their figures, and nothing else
pub record NothingElse (k p : ℕ) (before after : Pages) : Type 0 where
  pub keys : OnlyAt free_key k before.keys after.keys
  pub key-held : (key_in after (Some k)).held ≡ true
  pub key-id : (key_in after (Some k)).id ≡ (key_in before (Some k)).id
  pub key-bytes : (key_in after (Some k)).bytes ≡ (key_in before (Some k)).bytes
  pub rights : OnlyAt free_right p before.rights after.rights
  pub right-held : (right_in after (Some p)).held ≡ true
  pub right_name : (right_in after (Some p)).name ≡ (right_in before (Some p)).name

-- code 01, place by place
pub record Grant (b : Pages) (s : List ℕ) (a : After) : Type 0 where
  pub message : Message
  pub k : ℕ
  pub p : ℕ
  pub read : (reading s).frame ≡ Ok (MessageFrame message)
  pub good : message.good ≡ true
  -- the key of the message's ID
  pub its_key : is_key message.id (key_in b (Some k)) ≡ true
  -- the fitting right in the lowest place that can pay
  pub fits : Fits message (right_in b (Some p))
  pub lowest : (j : ℕ) → j < p → paying b message (right_in b (Some j)) ≡ false
  -- exactly one right is charged
  pub pays : Pays (right_in b (Some p)).account b.purse (right_in a.book (Some p)).account a.book.purse
  pub replays : Replays (right_in b (Some p)).name.spe message.ts (key_in b (Some k)).replay (key_in a.book (Some k)).replay
  pub nothing_else : NothingElse k p b a.book
  -- the key's sixteen bytes go to the lent key buffer
  pub handed : a.buffer ≡ (key_in b (Some k)).bytes
  pub sixteen : length a.buffer ≡ key_bytes
  pub reply : a.reply ≡ Granted (shown a.book k p)

-- ## 01, What a load does

-- the key in its place, before and after
pub data LoadsKey (l : Load) (key : List ℕ) (was : Key) : Key → Type 0 where
  -- a new ID starts with replay counter 0
  new : was.held ≡ false → l.flags.key ≡ true → LoadsKey l key was (record { held = true; id = l.name.id; replay = record { 0 = 0 }; bytes = key })
  -- if the frame carries a key, it replaces the key of that ID
  replaced : is_key l.name.id was ≡ true → l.flags.key ≡ true
      → LoadsKey l key was (record { held = true; id = l.name.id; replay = was.replay; bytes = key })
  kept : is_key l.name.id was ≡ true → l.flags.key ≡ false → LoadsKey l key was was

-- the account of the right in its place and the purse, before and after
pub data Settles (l : Load) (was : Right) (purse : Tokens) : Account → Tokens → Type 0 where
  -- right not held: it is made with counter equal to amount, whichever the flag
  counter_new : {n : TrafficKeys} → is_counted l.name.spe ≡ true → was.held ≡ false → n.0 ≡ l.amount → Settles l was purse (Counted n) purse
  -- the amount replaces the counter (set) or is added to it (add)
  counter-set : {n : TrafficKeys} → is_counted l.name.spe ≡ true → was.held ≡ true → l.flags.add ≡ false → n.0 ≡ l.amount → Settles l was purse (Counted n) purse
  counter-raised : {n : TrafficKeys} → is_counted l.name.spe ≡ true → was.held ≡ true → l.flags.add ≡ true → n.0 ≡ (counter was.account).0 + l.amount → Settles l was purse (Counted n) purse
  -- its cost becomes the frame's cost; the purse is replaced by the amount (set) or raised by it (add)
  purse-set : {t : Tokens} → is_purse l.name.spe ≡ true → l.flags.add ≡ false → t.0 ≡ l.amount → Settles l was purse (Purse l.cost) t
  purse-raised : {t : Tokens} → is_purse l.name.spe ≡ true → l.flags.add ≡ true → t.0 ≡ purse.0 + l.amount → Settles l was purse (Purse l.cost) t

-- code 00 of a load other than with SPE 0A, place by place
pub record Loading (b : Pages) (s : List ℕ) (a : After) : Type 0 where
  pub load : Load
  pub k : ℕ
  pub p : ℕ
  pub read : (reading s).frame ≡ Ok (LoadFrame load)
  pub proper : load.name.interval.low.0 < load.name.interval.high.0
  pub costless : is_counted load.name.spe ≡ true → load.cost.0 ≡ 0
  pub key_place : Takes (λ x. is_key load.name.id x) (λ x. x.held) free_key b.keys k
  pub right_place : Takes (λ r. is_right load.name r) (λ r. r.held) free_right b.rights p
  pub key : LoadsKey load (reading s).key (key_in b (Some k)) (key_in a.book (Some k))
  pub right-held : (right_in a.book (Some p)).held ≡ true
  pub right_name : (right_in a.book (Some p)).name ≡ load.name
  pub settles : Settles load (right_in b (Some p)) b.purse (right_in a.book (Some p)).account a.book.purse
  -- nothing else alters
  pub other_keys : OnlyAt free_key k b.keys a.book.keys
  pub other-rights : OnlyAt free_right p b.rights a.book.rights
  pub reply : a.reply ≡ Loaded (shown a.book k p)

-- SPE 0A removes the key, its replay counter and all its rights, for every interval
pub record Erasure (b : Pages) (s : List ℕ) (a : After) : Type 0 where
  pub load : Load
  pub k : ℕ
  pub read : (reading s).frame ≡ Ok (LoadFrame load)
  pub deletion : is_deletion load.name.spe ≡ true
  pub no_flag : (load.flags.add ≡ false) × (load.flags.key ≡ false)
  pub no_figure : (load.amount ≡ 0) × (load.cost.0 ≡ 0)
  pub its_key : is_key load.name.id (key_in b (Some k)) ≡ true
  pub keys : Gone (λ x. is_key load.name.id x) free_key b.keys a.book.keys
  pub rights : Gone (λ r. is_of load.name.id r) free_right b.rights a.book.rights
  pub purse : a.book.purse ≡ b.purse
  pub reply : a.reply ≡ Deleted b.purse

-- ## 01, Rights: kinds 04 and 03

-- the right goes; when it was its key's last, the key and its replay counter go too
pub record Deletion (b : Pages) (s : List ℕ) (a : After) : Type 0 where
  pub name : RightName
  pub p : ℕ
  pub read : (reading s).frame ≡ Ok (DeleteFrame name)
  pub its_right : is_right name (right_in b (Some p)) ≡ true
  pub rights : Gone (λ r. is_right name r) free_right b.rights a.book.rights
  pub key_stays : missing (first (λ r. is_of name.id r) a.book.rights) ≡ false → a.book.keys ≡ b.keys
  pub key_goes : missing (first (λ r. is_of name.id r) a.book.rights) ≡ true → Gone (λ x. is_key name.id x) free_key b.keys a.book.keys
  pub purse : a.book.purse ≡ b.purse
  pub reply : a.reply ≡ Deleted b.purse

-- a report of a held right alters nothing
pub record Report (b : Pages) (s : List ℕ) (a : After) : Type 0 where
  pub name : RightName
  pub k : ℕ
  pub p : ℕ
  pub read : (reading s).frame ≡ Ok (ReportFrame name)
  pub its_key : is_key name.id (key_in b (Some k)) ≡ true
  pub its_right : is_right name (right_in b (Some p)) ≡ true
  pub book : a.book ≡ b
  pub reply : a.reply ≡ Reported (shown b k p)

-- ## 01, Replies: every call, by its code

-- book and buffer are as before
pub record Unchanged (b : Pages) (u : List ℕ) (a : After) : Type 0 where
  pub book : a.book ≡ b
  pub buffer : a.buffer ≡ u

-- 17, right held: as held; else FF, 0, purse, 0
pub data Over (b : Pages) (n : RightName) : Reply → Type 0 where
  right-held : (k p : ℕ) → is_key n.id (key_in b (Some k)) ≡ true → is_right n (right_in b (Some p)) ≡ true → Over b n (OverHeld (shown b k p))
  right_new : ((j : ℕ) → is_right n (right_in b (Some j)) ≡ false) → Over b n (OverNew b.purse)

-- one case for each way that a call ends
pub data Outcome (b : Pages) (s u : List ℕ) (a : After) : Type 0 where
  refused : (r : Refusal) → a.reply ≡ Refused r → 0x10 ≤ code a.reply → Unchanged b u a → Outcome b s u a
  limit_passed : (l : Load) → (reading s).frame ≡ Ok (LoadFrame l) → Over b l.name a.reply → code a.reply ≡ 0x17 → Unchanged b u a → Outcome b s u a
  granted : code a.reply ≡ 0x01 → Grant b s a → Outcome b s u a
  reported : code a.reply ≡ 0x02 → Report b s a → a.buffer ≡ u → Outcome b s u a
  loaded : code a.reply ≡ 0x00 → Loading b s a → a.buffer ≡ u → Outcome b s u a
  erased : code a.reply ≡ 0x00 → Erasure b s a → a.buffer ≡ u → Outcome b s u a
  deleted : code a.reply ≡ 0x00 → Deletion b s a → a.buffer ≡ u → Outcome b s u a

-- every call of a book that comes from the empty one ends so
abbrev pub EveryCall : Type 0
EveryCall = (z : Sizes) (b : Pages) → Sound z b → (s u : List ℕ) → Outcome b s u (call b s u)

-- code 01 is given for a grant alone
abbrev pub GrantsCharge : Type 0
GrantsCharge = (z : Sizes) (b : Pages) → Sound z b → (s u : List ℕ) → code (call b s u).reply ≡ 0x01 → Grant b s (call b s u)

-- and whenever the mark is good, the ID is held, and some right fits and can pay
abbrev pub GrantsWhenPaid : Type 0
GrantsWhenPaid =
    (b : Pages) (s u : List ℕ) (m : Message) (j : ℕ) → length u ≡ key_bytes → (reading s).frame ≡ Ok (MessageFrame m)
    → m.good ≡ true → missing (key_at b m.id) ≡ false → paying b m (right_in b (Some j)) ≡ true → code (call b s u).reply ≡ 0x01

-- after a code of 10 or more, book and buffers are unchanged
abbrev pub RefusalsAlterNothing : Type 0
RefusalsAlterNothing = (b : Pages) (s u : List ℕ) → 0x10 ≤ code (call b s u).reply → Unchanged b u (call b s u)

-- only code 01 writes the key buffer
abbrev pub OnlyGrantsWrite : Type 0
OnlyGrantsWrite = (b : Pages) (s u : List ℕ) → (code (call b s u).reply ≡ 0x01 → ⊥) → (call b s u).buffer ≡ u

-- 10, the key buffer is not 16 bytes long
abbrev pub WrongBuffer : Type 0
WrongBuffer = (b : Pages) (s u : List ℕ) → (length u ≡ key_bytes → ⊥) → call b s u ≡ unchanged b u (Refused BufferLength)

-- 11, the reader's tests fail
abbrev pub ReaderRefuses : Type 0
ReaderRefuses = (b : Pages) (s u : List ℕ) (r : Refusal) → length u ≡ key_bytes → (reading s).frame ≡ Err r → call b s u ≡ unchanged b u (Refused r)
