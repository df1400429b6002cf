-- What is known of a call that no refusal stops, check by check: a list of refusals that changes is read here alone. Assumes nothing.
use Prim.Native.Nat.{ℕ, ◌<◌}
use mathlib.Core.Path.{◌≡◌, refl, ◌∙◌, sym}
use mathlib.Core.Bool.{true, false, not, ◌&&◌, ◌||◌, or-false}
use lib.Dec.{eqb}
use borrow.Author.Tests.{leb-false, eqb-true, not-false}
use Rattle.places.specs.Words.{missing}
use Rattle.places.proofs.Tests.{if_elim, or_left, or_right}
use Rattle.figures.specs.Names.{empty}
use Rattle.figures.specs.Policies.{is_counted, is_purse, holds_right}
use Rattle.figures.specs.Accounts.{credit_of}
use Rattle.figures.specs.Loads.{credit_in, over_by, costly, laden}
use Rattle.rules.specs.Types.{RightName, Load, Message, Credit, ToCounter, ToPurse}
use Rattle.rules.specs.Pages.{Pages, key_at, right_at, key_room, right_room, purse_of}
use Rattle.rules.specs.Loads.{loadable, account_before, over_limit, load_refusals}
use Rattle.rules.specs.Deletions.{report_refusals, delete_refusals, erase_refusals}
use Rattle.rules.specs.Messages.{message_refusals}
use Rattle.rules.proofs.Refusals.{Passed}

-- a load's credit is its amount, to what its SPE pays from
abbrev pub Sort : ℕ → ℕ → Credit → Type 0
Sort s amount (ToCounter n) = (is_counted s ≡ true) × (n.0 ≡ amount)
Sort s amount (ToPurse t) = (is_purse s ≡ true) × (t.0 ≡ amount)

credit_sort : (s amount : ℕ) → not (holds_right s) ≡ false → Sort s amount (credit_of s amount)
unfolding holds_right credit_of
credit_sort s amount p =
    if_elim (Sort s amount) (is_counted s) _ _ (λ e. (e, refl)) (λ e. (sym (or-false (is_purse s)) ∙ rw e at (not-false (is_purse s || is_counted s) p), refl))

module _ (b : Pages) (l : Load) (pass : Passed (load_refusals b l)) where
  pub load_sort : Sort l.name.spe l.amount (credit_in l)
  unfolding load_refusals loadable
  load_sort = credit_sort l.name.spe l.amount pass.0

  pub load_costless : is_counted l.name.spe ≡ true → l.cost.0 ≡ 0
  unfolding load_refusals costly
  load_costless h = eqb-true _ _ (not-false _ (rw h at pass.1.0))

  pub load_proper : l.name.interval.low.0 < l.name.interval.high.0
  unfolding load_refusals empty
  load_proper = leb-false _ _ pass.1.1.0

  pub load_keyed : (missing (key_at b l.name.id) && not l.flags.key) ≡ false
  unfolding load_refusals
  load_keyed = pass.1.1.1.0

  pub key_has_room : missing (key_room b l.name.id) ≡ false
  unfolding load_refusals
  key_has_room = pass.1.1.1.1.0

  pub right_has_room : missing (right_room b l.name) ≡ false
  unfolding load_refusals
  right_has_room = pass.1.1.1.1.1.0

  pub load_within : over_by (credit_in l) l (account_before b l.name) (purse_of b l.name) ≡ false
  unfolding load_refusals over_limit
  load_within = pass.1.1.1.1.1.1.0

module _ (b : Pages) (l : Load) (pass : Passed (erase_refusals b l)) where
  bare : (l.flags.add || l.flags.key || not (eqb l.amount 0) || not (eqb l.cost.0 0)) ≡ false
  unfolding erase_refusals laden
  bare = pass.0

  pub erase_no_flag : (l.flags.add ≡ false) × (l.flags.key ≡ false)
  erase_no_flag = (or_left _ _ (or_left _ _ (or_left _ _ bare)), or_right l.flags.add _ (or_left _ _ (or_left _ _ bare)))

  pub erase_no_figure : (l.amount ≡ 0) × (l.cost.0 ≡ 0)
  erase_no_figure = (eqb-true _ _ (not-false _ (or_right (l.flags.add || l.flags.key) _ (or_left _ _ bare))), eqb-true _ _ (not-false _ (or_right (l.flags.add || l.flags.key || not (eqb l.amount 0)) _ bare)))

  pub erase-held : missing (key_at b l.name.id) ≡ false
  unfolding erase_refusals
  erase-held = pass.1.0

module _ (b : Pages) (m : Message) (pass : Passed (message_refusals b m)) where
  pub message_good : m.good ≡ true
  unfolding message_refusals
  message_good = not-false _ pass.0

  pub message_keyed : missing (key_at b m.id) ≡ false
  unfolding message_refusals
  message_keyed = pass.1.0

pub report-held : (b : Pages) (n : RightName) → Passed (report_refusals b n) → missing (right_at b n) ≡ false
unfolding report_refusals
report-held b n pass = pass.1.0

pub delete-held : (b : Pages) (n : RightName) → Passed (delete_refusals b n) → missing (right_at b n) ≡ false
unfolding delete_refusals report_refusals
delete-held b n pass = pass.1.0
