-- The book and a call's answer, as the rules speak of them.
use Rattle.std.specs.Prelude.{ℕ, ◌<◌, List, length}
use Rattle.places.specs.Words.{put}
use Rattle.rules.specs.Pages.{Pages}
use Rattle.rules.specs.Calls.{After}
use Rattle.book.specs.Types.{Book, Called, Places, Some, Tokens, Key, Right, Shown, Reply}

abbrev pub pages : Book → Pages
pages b = record { keys = b.keys; rights = b.rights; purse = b.purse }

-- a book is its pages
abbrev pub bound : Pages → Book
bound p = record { keys = p.keys; rights = p.rights; purse = p.purse }

-- how a call ends: the book, the reply, and the lent key buffer
abbrev pub ends : Book → Reply → List ℕ → After
ends b r u = record { book = pages b; reply = r; buffer = u }

abbrev pub after : Called → List ℕ → After
after c u = ends c.book c.reply u

-- the book with a key and a right in these places, and a purse
abbrev pub changed : Book → Places → Key → Right → Tokens → Book
changed b p key right purse =
    record { keys = put (Some p.key) key b.keys; rights = put (Some p.right) right b.rights; purse = purse }

-- what a reply shows of a right in its place, of its key and of a purse
abbrev pub shown : ℕ → Right → Key → Tokens → Shown
shown place right key purse = record { place = place; account = right.account; purse = purse; replay = key.replay }

-- these are places of the book
pub record Held (b : Book) (p : Places) : Type 0 where
  pub key : p.key < length b.keys
  pub right : p.right < length b.rights
