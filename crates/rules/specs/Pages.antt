-- What a book holds, and how keys, rights and the purse are looked up in it: 01, What the book is, and Rights.
use Rattle.std.specs.Prelude.{ℕ, not, List, replicate}
use Rattle.places.specs.Words.{first, at, or_else}
use Rattle.figures.specs.Limits.{key_places, right_places, no_place}
use Rattle.figures.specs.Rights.{free_right, is_right}
use Rattle.figures.specs.Keys.{free_key, is_key}
use Rattle.rules.specs.Types.{Option, Some, None, Tokens, KeyId, RightName, Right, Key, Shown}

-- 01, What the book is: keys, rights and one user purse
pub record Pages : Type 0 where
  pub keys : List Key
  pub rights : List Right
  pub purse : Tokens

-- ## The empty book

-- how many places there are of each sort
pub record Sizes : Type 0 where
  pub keys : ℕ
  pub rights : ℕ

-- 01, Rights: a free place always holds the same; an empty book has purse 0
unfoldable pub blank : Sizes → Pages
blank z = record { keys = replicate z.keys free_key; rights = replicate z.rights free_right; purse = record { 0 = 0 } }

-- 01, Rights: 16 key places and 32 right places
abbrev pub empty_book : Pages
empty_book = blank (record { keys = key_places; rights = right_places })

-- ## Looking up

-- the place of the key of an ID
unfoldable pub key_at : Pages → KeyId → Option ℕ
key_at b i = first (λ k. is_key i k) b.keys

-- 01, Rights: the place of the right of a name, which two never share
unfoldable pub right_at : Pages → RightName → Option ℕ
right_at b n = first (λ r. is_right n r) b.rights

-- the key in a place; a free one where there is no such place
unfoldable pub key_in : Pages → Option ℕ → Key
key_in b k = at free_key k b.keys

-- the right in a place; a free one where there is no such place
unfoldable pub right_in : Pages → Option ℕ → Right
right_in b r = at free_right r b.rights

-- 01, Rights: a new key takes the lowest free place of its sort
unfoldable pub free_key_at : Pages → Option ℕ
free_key_at b = first (λ k. not k.held) b.keys

-- 01, Rights: and so a new right
unfoldable pub free_right_at : Pages → Option ℕ
free_right_at b = first (λ r. not r.held) b.rights

-- where a key goes: the place it is held in, or else the lowest free one
unfoldable pub key_room : Pages → KeyId → Option ℕ
key_room b i = or_else (key_at b i) (free_key_at b)

-- and where a right goes
unfoldable pub right_room : Pages → RightName → Option ℕ
right_room b n = or_else (right_at b n) (free_right_at b)

-- ## What a reply shows

-- 01, Rights: the purse that a right draws on is the user purse, whatever its name
unfoldable pub purse_of : Pages → RightName → Tokens
purse_of b n = b.purse

-- 01, Replies: the purse where no right is shown
unfoldable pub user_purse : Pages → Tokens
user_purse b = b.purse

-- 01, Replies: place of the right, FF for none
abbrev pub place_number : Option ℕ → ℕ
place_number (Some i) = i
place_number None = no_place

-- 01, Replies: as held: place, account, purse and replay counter of the key
unfoldable pub as_held : Pages → Option ℕ → Option ℕ → Shown
as_held b k r =
    record {
      place = place_number r;
      account = (right_in b r).account;
      purse = purse_of b (right_in b r).name;
      replay = (key_in b k).replay;
    }
