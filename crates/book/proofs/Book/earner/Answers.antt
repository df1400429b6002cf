-- Each check is a line of the rules' list; the walk over the rights, in its two parts, answers two of them.
use Rattle.std.proofs.Common.{◌≡◌, sym, ◌∙◌, arith}
use Rattle.places.specs.Words.{first}
use Rattle.places.proofs.Walks.{first_in}
use Rattle.rules.specs.Calls.{unless}
use Rattle.rules.specs.Pages.{key_at}
use Rattle.rules.specs.Messages.{message, message_refusals, fitting, payer}
use Rattle.rules.proofs.InPlace.{key_inside}
use Rattle.book.specs.Pages.{pages}
use Rattle.book.proofs.Chosen.{fitting_found, payer_found}
use Rattle.book.proofs.Book.earner.Goals as goal
use Rattle.book.proofs.Book.earner.Goals.{After-fitting, After-payer}

-- the rules' two searches
fitted : (c : After-fitting) → c.fitting.result ≡ first (λ r. fitting (pages c.args.self.now) c.args.frame r) c.args.self.now.rights
unfolding key_at
fitted c = c.fitting.ensures ∙ fitting_found (pages c.args.self.now) c.args.frame c.in-Some.key _ (sym c.in-Some.ensures)

pays : (c : After-payer) → c.payer.result ≡ payer (pages c.args.self.now) c.args.frame
unfolding key_at
pays c =
    let b = pages c.args.self.now in
    let m = c.args.frame in
    let found = sym c.in-Some.ensures in
    c.payer.ensures ∙ payer_found b m c.in-Some.key _ found c.in-Some-fitting.from (sym (fitting_found b m c.in-Some.key _ found) ∙ sym c.in-Some-fitting.ensures)

pub offset_bounds-self-key : goal.offset_bounds-self-key
unfolding key_at
offset_bounds-self-key c = omega (arith, key_inside (pages c.args.self.now) c.args.frame.id _ (sym c.in-Some.ensures))

pub bounds-self-key : goal.bounds-self-key
unfolding key_at
bounds-self-key c = omega (arith, key_inside (pages c.args.self.now) c.args.frame.id _ (sym c.in-Some.ensures))

pub returns-in_default-fitting-clause-ends : goal.returns-in_default-fitting-clause-ends
unfolding key_at message message_refusals unless
returns-in_default-fitting-clause-ends c =
    let f = fitted (goal.at.returns-in_default-fitting-clause-ends c).After-fitting in
    λ u. simp (← c.in-Passed.ensures, ← c.in-Some.ensures, ← f, c.in_default-fitting.is)

pub payer-requires : goal.payer-requires
payer-requires c = let e = sym c.in-Some-fitting.ensures in record { inside = first_in _ _ _ e; lowest = e }

pub returns-in_default-payer-clause-ends : goal.returns-in_default-payer-clause-ends
unfolding key_at message message_refusals payer unless
returns-in_default-payer-clause-ends c =
    let x = goal.at.returns-in_default-payer-clause-ends c in
    let f = fitted x.After-fitting in
    let p = pays x.After-payer in
    λ u. simp (← c.in-Passed.ensures, ← c.in-Some.ensures, ← f, c.in-Some-fitting.is, ← p, c.in_default-payer.is)

pub returns-clause-ends : goal.returns-clause-ends
unfolding key_at message message_refusals payer unless
returns-clause-ends c =
    let x = goal.at.returns-clause-ends c in
    let f = fitted x.After-fitting in
    let p = pays x.After-payer in
    λ u. simp (← c.in-Passed.ensures, ← c.in-Some.ensures, ← f, c.in-Some-fitting.is, ← p, c.in-Some-payer.is)

pub returns-clause-places : goal.returns-clause-places
unfolding key_at payer
returns-clause-places c =
    let p = pays (goal.at.returns-clause-places c).After-payer in
    record { key = key_inside (pages c.args.self.now) c.args.frame.id _ (sym c.in-Some.ensures); right = first_in _ _ _ (sym p ∙ c.in-Some-payer.is) }
