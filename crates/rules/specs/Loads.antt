-- What a load does, other than with SPE 0A: 01, What a load does, and Replies (12, 13, 14, 15, 16, 17).
use Rattle.std.specs.Prelude.{ℕ, Bool, not, ◌&&◌, List, [], if◌then◌else◌}
use Rattle.places.specs.Words.{put, missing}
use Rattle.figures.specs.Names.{empty}
use Rattle.figures.specs.Policies.{holds_right}
use Rattle.figures.specs.Keys.{loaded_key}
use Rattle.figures.specs.Loads.{credit_in, account_by, purse_by, over_by, loaded_right, costly}
use Rattle.rules.specs.Types.{RightName, Account, Key, Load, Reply, Loaded, OverHeld, OverNew, Refused, Policy, Fields, EmptyInterval, UnknownId, Full}
use Rattle.rules.specs.Pages.{Pages, key_at, right_at, key_in, right_in, key_room, right_room, purse_of, user_purse, as_held}
use Rattle.rules.specs.Calls.{After, Check, ◌⇒◌∣◌, unless}

-- 01, Replies, 12: an SPE that a right may be loaded with
unfoldable pub loadable : Pages → ℕ → Bool
loadable b s = holds_right s

-- 01, What a load does: the account of the right before it; none held counts from 0
unfoldable pub account_before : Pages → RightName → Account
account_before b n = (right_in b (right_at b n)).account

-- 01, Replies, 17: the counter or purse would pass its limit
unfoldable pub over_limit : Pages → Load → Bool
over_limit b l = over_by (credit_in l) l (account_before b l.name) (purse_of b l.name)

-- 01, Replies, 17: right held: as held; else FF, 0, purse, 0
unfoldable pub over_reply : Pages → RightName → Reply
over_reply b n = if missing (right_at b n) then OverNew (user_purse b) else OverHeld (as_held b (key_at b n.id) (right_at b n))

-- 01, Replies: load: 12, 13, 14, 15, 16, 17
unfoldable pub load_refusals : Pages → Load → List Check
load_refusals b l =
    not (loadable b l.name.spe) ⇒ Refused Policy
    ∣ costly l ⇒ Refused Fields
    ∣ empty l.name.interval ⇒ Refused EmptyInterval
    ∣ missing (key_at b l.name.id) && not l.flags.key ⇒ Refused UnknownId
    ∣ missing (key_room b l.name.id) ⇒ Refused Full
    ∣ missing (right_room b l.name) ⇒ Refused Full
    ∣ over_limit b l ⇒ over_reply b l.name
    ∣ []

-- 01, What a load does: a new ID starts with replay counter 0, that of a free place; a key that is carried replaces the ID's
unfoldable pub key_after : Pages → Load → List ℕ → Key
key_after b l key = loaded_key l.name.id l.flags.key key (key_in b (key_at b l.name.id))

-- 01, What a load does: the key, the right and the purse that it leaves
unfoldable pub loaded : Pages → Load → List ℕ → Pages
loaded b l key =
    record {
      keys = put (key_room b l.name.id) (key_after b l key) b.keys;
      rights = put (right_room b l.name) (loaded_right l (account_by (credit_in l) l (account_before b l.name))) b.rights;
      purse = purse_by (credit_in l) l (purse_of b l.name);
    }

-- 01, Replies, 00: load done, as held
unfoldable pub store : Pages → List ℕ → Load → List ℕ → After
store b u l key =
    let after = loaded b l key in
    unless b u (load_refusals b l)
    (record { book = after; reply = Loaded (as_held after (key_room b l.name.id) (right_room b l.name)); buffer = u })
