-- What is stored in the places that were found is what the rules say a load leaves. Assumes nothing.
use Prim.Native.Nat.{ℕ}
use mathlib.Core.Path.{◌≡◌}
use mathlib.Core.List.{List}
use Rattle.figures.specs.Loads.{credit_in, account_by, purse_by}
use Rattle.rules.specs.Pages.{key_at, key_in, key_room, right_room, purse_of, as_held}
use Rattle.rules.specs.Calls.{After}
use Rattle.rules.specs.Loads.{account_before, key_after, loaded}
use Rattle.rules.proofs.InPlace.{shown_in}
use Rattle.book.specs.Types.{Book, Places, Some, Load, Settled, Loaded}
use Rattle.book.specs.Pages.{pages, after, Held}
use Rattle.book.specs.Stored.{stored}

-- what a load leaves of the account and the purse, by the rules
abbrev pub settled_by : Book → Load → Settled
settled_by b l =
    record {
      account = account_by (credit_in l) l (account_before (pages b) l.name);
      purse = purse_by (credit_in l) l (purse_of (pages b) l.name);
    }

-- what a load that is done leaves, by the rules
abbrev pub done_by : Book → List ℕ → Load → List ℕ → After
done_by b u l bytes =
    let left = loaded (pages b) l bytes in
    record { book = left; reply = Loaded (as_held left (key_room (pages b) l.name.id) (right_room (pages b) l.name)); buffer = u }

pub stored_is : (b : Book) (l : Load) (bytes : List ℕ) (p : Places) → Held b p
    → key_room (pages b) l.name.id ≡ Some p.key → right_room (pages b) l.name ≡ Some p.right → (u : List ℕ)
    → after (stored b l bytes (record { held = key_at (pages b) l.name.id; places = p; settled = settled_by b l })) u ≡ done_by b u l bytes
unfolding loaded key_after key_in
stored_is b l bytes p h k r u = rw (k, r, ← shown_in (pages b) p.key p.right h.key h.right)
