-- What a load leaves once its places are known.
use Rattle.std.specs.Prelude.{ℕ, List, if◌then◌else◌}
use Rattle.places.specs.Words.{at, missing}
use Rattle.figures.specs.Keys.{free_key, loaded_key}
use Rattle.figures.specs.Loads.{loaded_right}
use Rattle.rules.specs.Pages.{Pages, user_purse, as_held}
use Rattle.rules.specs.Calls.{After, unchanged}
use Rattle.book.specs.Types.{Book, Called, Option, Result, Ok, Err, Key, Load, Storing, Reply, Loaded, OverHeld, OverNew}
use Rattle.book.specs.Pages.{pages, after, changed, shown}

-- the key held before, with what the load carries
abbrev pub stored_key : Book → Load → List ℕ → Option ℕ → Key
stored_key b l bytes held = loaded_key l.name.id l.flags.key bytes (at free_key held b.keys)

abbrev pub stored : Book → Load → List ℕ → Storing → Called
stored b l bytes s =
    let key = stored_key b l bytes s.held in
    let right = loaded_right l s.settled.account in
    record { book = changed b s.places key right s.settled.purse; reply = Loaded (shown s.places.right right key s.settled.purse) }

-- what a load leaves once its places are known, or the reply that leaves all as it is
abbrev pub settles : Book → List ℕ → Load → List ℕ → Result Storing Reply → After
settles b u l bytes (Ok s) = after (stored b l bytes s) u
settles b u l bytes (Err r) = unchanged (pages b) u r

-- 17, by the places of the key and the right
abbrev pub over : Pages → Option ℕ → Option ℕ → Reply
over b key right = if missing right then OverNew (user_purse b) else OverHeld (as_held b key right)
