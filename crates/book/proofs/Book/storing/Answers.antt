-- Each check is a line of the rules' list, in the rules' order.
use Rattle.std.proofs.Common.{◌≡◌, ℕ, List, drop, sym, ◌∙◌}
use Rattle.figures.specs.Rights.{free_right}
use Rattle.figures.specs.Names.{no_id}
use Rattle.figures.proofs.Settling.{within_tells, past_tells}
use Rattle.rules.specs.Calls.{After, unless}
use Rattle.rules.specs.Pages.{key_at, right_at, free_key_at, free_right_at, key_room, right_room, right_in, purse_of}
use Rattle.rules.specs.Loads.{store, load_refusals, loadable, account_before, over_limit, over_reply}
use Rattle.rules.proofs.InPlace.{key_room_inside, right_room_inside}
use Rattle.book.specs.Types.{Places}
use Rattle.book.specs.Pages.{pages, Held}
use Rattle.book.proofs.Storing.{stored_is}
use Rattle.book.proofs.Book.storing.Goals as goal
use Rattle.book.proofs.Book.storing.Goals.{In-Passed-known, In-Some-room_for, After-place_of-held, After-place_of-named, After-room_for, After-room_for-2, After-account_in-account}

-- where the key and the right are held, by the rules
key_is : (c : After-place_of-held) → c.place_of-held.result ≡ key_at (pages c.args.self.now) c.args.load.name.id
unfolding key_at
key_is c = c.place_of-held.ensures

right_is : (c : After-place_of-named) → c.place_of-named.result ≡ right_at (pages c.args.self.now) c.args.load.name
unfolding right_at
right_is c = c.place_of-named.ensures

-- where the key goes, where the right goes, and the account that is settled on, by the rules
key_goes : (c : After-room_for) → c.room_for.result ≡ key_room (pages c.args.self.now) c.args.load.name.id
unfolding key_room key_at free_key_at
key_goes c = rw c.room_for.ensures (rw c.place_of-held.ensures)

right_goes : (c : After-room_for-2) → c.room_for-2.result ≡ right_room (pages c.args.self.now) c.args.load.name
unfolding right_room right_at free_right_at
right_goes c = rw c.room_for-2.ensures (rw c.place_of-named.ensures)

account_is : (c : After-account_in-account) → c.account_in-account.result ≡ account_before (pages c.args.self.now) c.args.load.name
unfolding account_before right_at right_in free_right no_id
account_is c = rw (c.account_in-account.ensures, c.place_of-named.ensures)

-- the first four checks pass
four_pass : (c : In-Passed-known) (u : List ℕ) (d : After)
    → unless (pages c.args.self.now) u (load_refusals (pages c.args.self.now) c.args.load) d ≡ unless (pages c.args.self.now) u (drop 4 (load_refusals (pages c.args.self.now) c.args.load)) d
unfolding load_refusals loadable key_at unless
four_pass c u d =
    simp (← c.in-Passed.ensures, ← c.in-Passed-free_of_cost.ensures, ← c.in-Passed-proper.ensures, ← c.place_of-held.ensures, ← c.in-Passed-known.ensures)

-- the first six pass
six_pass : (c : In-Some-room_for) (u : List ℕ) (d : After)
    → unless (pages c.args.self.now) u (load_refusals (pages c.args.self.now) c.args.load) d ≡ unless (pages c.args.self.now) u (drop 6 (load_refusals (pages c.args.self.now) c.args.load)) d
unfolding load_refusals unless
six_pass c u d =
    let x = goal.at.In-Some-room_for c in
    simp (four_pass x.In-Passed-known, ← key_goes x.After-room_for, c.in-Some.is, ← right_goes x.After-room_for-2, c.in-Some-room_for.is)

pub returns-in_default-settled-clause-ends : goal.returns-in_default-settled-clause-ends
unfolding store load_refusals over_limit over_reply purse_of unless
returns-in_default-settled-clause-ends c =
    let x = goal.at.returns-in_default-settled-clause-ends c in
    let past = past_tells _ _ _ (sym c.in_default-settled.ensures) in
    λ u bytes. simp (c.over.ensures, six_pass x.In-Some-room_for, ← account_is x.After-account_in-account, past, key_is x.After-place_of-held, right_is x.After-place_of-named)

-- the places are places of the book
pub returns-clause-places : goal.returns-clause-places
returns-clause-places c =
    let x = goal.at.returns-clause-places c in
    record {
      key = key_room_inside _ _ _ (sym (key_goes x.After-room_for) ∙ c.in-Some.is);
      right = right_room_inside _ _ _ (sym (right_goes x.After-room_for-2) ∙ c.in-Some-room_for.is);
    }

pub returns-clause-ends : goal.returns-clause-ends
unfolding store load_refusals over_limit purse_of unless
returns-clause-ends c =
    let x = goal.at.returns-clause-ends c in
    let b = c.args.self.now in
    let l = c.args.load in
    let within = within_tells _ _ _ _ (sym c.in-Some-settled.ensures) in
    let key = sym (key_goes x.After-room_for) ∙ c.in-Some.is in
    let right = sym (right_goes x.After-room_for-2) ∙ c.in-Some-room_for.is in
    let account = account_is x.After-account_in-account in
    let places : Places = record { key = c.in-Some.key; right = c.in-Some-room_for.right } in
    let held : Held b places = record { key = key_room_inside _ _ _ key; right = right_room_inside _ _ _ right } in
    λ u bytes. rw (← within.1, account, key_is x.After-place_of-held)
    (sym (stored_is b l bytes places held key right u ∙ simp (six_pass x.In-Some-room_for, ← account, within.0)))
