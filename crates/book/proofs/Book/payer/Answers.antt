-- The right in the place is asked first; a place that was found behind it is a place of the list.
use Rattle.std.proofs.Common.{◌≡◌, ◌+◌, drop, option_map, refl, sym, ap, ◌∙◌, arith, rules}
use Rattle.std.specs.Prelude.{if◌then◌else◌}
use native.Mathlib.Numerals.{add-one}
use lib.ListN.{length-drop}
use lib.Seq.{take_all}
use Rattle.places.specs.Words.{first}
use Rattle.places.proofs.Walks.{first_in}
use Rattle.figures.specs.Rights.{fits}
use Rattle.figures.specs.Accounts.{can_pay}
use Rattle.book.specs.Types.{Some, Right}
use Rattle.book.specs.Choices.{pays, payer_from}
use Rattle.book.proofs.Chosen.{first_behind}
use Rattle.book.proofs.Book.payer.Goals.{After-can_pay, After-paying}
use Rattle.book.proofs.Book.payer.Goals as goal

asked : (c : After-can_pay) → payer_from c.args.from c.args.message c.args.replay c.args.self.now.purse c.args.self.now.rights
    ≡ (if c.can_pay.result then Some c.args.from
    else option_map (λ j. c.args.from + 1 + j) (first (λ r. pays c.args.message c.args.replay c.args.self.now.purse r) (drop (c.args.from + 1) c.args.self.now.rights)))
unfolding payer_from
asked c =
    rw (c.can_pay.ensures, add-one)
    (first_behind (λ r. fits c.args.message c.args.replay r) (λ (r : Right). can_pay c.args.self.now.purse r.account) c.args.self.now.rights c.args.from _ c.requires.lowest)

behind : (c : After-paying) → c.paying.result ≡ first (λ r. pays c.args.message c.args.replay c.args.self.now.purse r) (drop (c.args.from + 1) c.args.self.now.rights)
behind c = c.paying.ensures ∙ ap (first (λ r. pays c.args.message c.args.replay c.args.self.now.purse r)) (take_all _ _ (simp length-drop (omega arith)))

pub returns-then-can_pay : goal.returns-then-can_pay
returns-then-can_pay c =
    let x = goal.at.returns-then-can_pay c in
    rw (asked x.After-can_pay, c.if-can_pay.true) refl

pub returns-in_err-later : goal.returns-in_err-later
returns-in_err-later c =
    let x = goal.at.returns-in_err-later c in
    rw (asked x.After-can_pay, c.if-can_pay.false, ← behind x.After-paying, c.in_err-later.was, c.from_residual.ensures) refl

pub overflow_add-place : goal.overflow_add-place
overflow_add-place c =
    let l = first_in _ _ _ (sym (behind (goal.at.overflow_add-place c).After-paying) ∙ c.in_ok-later.was) in
    let m = simp length-drop at l in
    omega arith

pub returns : goal.returns
returns c =
    let x = goal.at.returns c in
    let e : payer_from c.args.from c.args.message c.args.replay c.args.self.now.purse c.args.self.now.rights ≡ Some (c.args.from + 1 + c.in_ok-later.later) =
    rw (asked x.After-can_pay, c.if-can_pay.false, ← behind x.After-paying, c.in_ok-later.was) refl in
    search rules
