-- What the rules say of places that a list has, in terms of reads and stores in place. Assumes nothing.
use Prim.Native.Nat.{ℕ, ◌<◌}
use mathlib.Core.Path.{◌≡◌, ap}
use lib.ListN.{length, get_or}
use Rattle.places.specs.Words.{put}
use Rattle.places.proofs.Walks.{at_in, put_same, first_in, room_in}
use Rattle.figures.specs.Accounts.{spent}
use Rattle.figures.specs.Rights.{free_right, charged_right}
use Rattle.figures.specs.Keys.{free_key, granted_key}
use Rattle.rules.specs.Types.{Some, Tokens, Timestamp, KeyId, RightName, Key, Right, Shown, Granted}
use Rattle.rules.specs.Pages.{Pages, key_at, right_at, key_in, right_in, free_key_at, free_right_at, key_room, right_room, purse_of, as_held}
use Rattle.rules.specs.Calls.{After}
use Rattle.rules.specs.Messages.{replay_of, granted, grant}

-- the key x in place k, the right y in place r, and the purse t
abbrev pub with_both : Pages → ℕ → Key → ℕ → Right → Tokens → Pages
with_both b k x r y t = record { keys = put (Some k) x b.keys; rights = put (Some r) y b.rights; purse = t }

-- what a reply shows of them
abbrev pub shown : ℕ → Right → Key → Tokens → Shown
shown r y x t = record { place = r; account = y.account; purse = t; replay = x.replay }

module _ (b : Pages) (k r : ℕ) (in-keys : k < length b.keys) (in-rights : r < length b.rights) where
  pub shown_in : (x : Key) (y : Right) (t : Tokens) → shown r y x t ≡ as_held (with_both b k x r y t) (Some k) (Some r)
  unfolding as_held key_in right_in purse_of
  shown_in x y t = rw (put_same b.keys k x free_key in-keys, put_same b.rights r y free_right in-rights)

  -- a grant by the key x in place k and the right y in place r
  abbrev grant_by : Timestamp → Key → Right → After
  grant_by ts x y =
      let t = spent y.account b.purse in
      record {
        book = with_both b k (granted_key ts x) r (charged_right y) t;
        reply = Granted (shown r (charged_right y) (granted_key ts x) t);
        buffer = x.bytes;
      }

  pub grant_in : (ts : Timestamp) (e : Key) (d : Right)
      → grant_by ts (get_or b.keys k e) (get_or b.rights r d) ≡ grant b (Some k) (Some r) ts
  unfolding grant granted key_in right_in purse_of
  grant_in ts e d =
      rw (at_in b.keys k free_key e in-keys, at_in b.rights r free_right d in-rights, shown_in)

-- ## A place that was found is a place of the book

module _ (b : Pages) where
  pub key_inside : (i : KeyId) (k : ℕ) → key_at b i ≡ Some k → k < length b.keys
  unfolding key_at
  key_inside i k e = first_in _ _ _ e

  pub right_inside : (n : RightName) (k : ℕ) → right_at b n ≡ Some k → k < length b.rights
  unfolding right_at
  right_inside n k e = first_in _ _ _ e

  pub key_room_inside : (i : KeyId) (k : ℕ) → key_room b i ≡ Some k → k < length b.keys
  unfolding key_room key_at free_key_at
  key_room_inside i k e = room_in _ _ _ _ e

  pub right_room_inside : (n : RightName) (k : ℕ) → right_room b n ≡ Some k → k < length b.rights
  unfolding right_room right_at free_right_at
  right_room_inside n k e = room_in _ _ _ _ e

  -- the replay counter of an ID
  pub replay_in : (i : KeyId) (k : ℕ) (e : Key) → key_at b i ≡ Some k → (get_or b.keys k e).replay ≡ replay_of b i
  unfolding replay_of key_in
  replay_in i k e h = rw (replay_of, h) (ap (λ (x : Key). x.replay) (at_in b.keys k free_key e (key_inside i k h)))
