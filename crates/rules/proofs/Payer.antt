-- All that theorems use of the right that is charged, and of the purse that it draws on: another rule of choice is proved here alone.
-- Assumes nothing.
use Prim.Native.Nat.{ℕ, ◌≤◌, ◌<◌}
use mathlib.Core.Path.{◌≡◌}
use mathlib.Core.Bool.{true, false}
use lib.ListN.{length}
use Rattle.places.specs.Words.{at, put, missing}
use Rattle.places.proofs.Lists.{first_sat, first_put_here, first_lowest}
use Rattle.places.proofs.Walks.{first_in}
use Rattle.places.proofs.Tests.{and_left, and_right}
use Rattle.figures.specs.Accounts.{can_pay}
use Rattle.figures.specs.Policies.{purse_limit_of}
use Rattle.figures.specs.Rights.{free_right, fits}
use Rattle.rules.specs.Types.{Some, RightName, Right, Message}
use Rattle.rules.specs.Pages.{Pages, Sizes, right_in, purse_of}
use Rattle.rules.specs.Messages.{fitting, paying, payer, message_refusals}
use Rattle.rules.specs.Sound.{Sound}
use Rattle.rules.proofs.Refusals.{Passed}

module _ (b : Pages) (m : Message) (p : Passed (message_refusals b m)) where
  pub payer_found : missing (payer b m) ≡ false
  unfolding message_refusals payer
  payer_found = p.1.1.1.0

  payer-pays : paying b m (right_in b (payer b m)) ≡ true
  unfolding payer right_in
  payer-pays = first_sat free_right b.rights (λ r. paying b m r) payer_found

  pub payer-fits : fitting b m (right_in b (payer b m)) ≡ true
  unfolding paying
  payer-fits = and_left _ _ payer-pays

  pub payer-can_pay : can_pay (purse_of b (right_in b (payer b m)).name) (right_in b (payer b m)).account ≡ true
  unfolding paying
  payer-can_pay = and_right (fitting b m (right_in b (payer b m))) _ payer-pays

  pub payer-held : (right_in b (payer b m)).held ≡ true
  unfolding fitting fits
  payer-held = let h = payer-fits in search and_left depth 8

  -- what is put there stands there
  pub payer_here : (x : Right) → at free_right (payer b m) (put (payer b m) x b.rights) ≡ x
  unfolding payer
  payer_here x = first_put_here b.rights _ free_right x payer_found

  -- its place is one of the book's, and no lower place could pay
  module _ (k : ℕ) (e : payer b m ≡ Some k) where
    pub payer_in : k < length b.rights
    unfolding payer
    payer_in = first_in (λ r. paying b m r) b.rights k e

    pub payer_lowest : (j : ℕ) → j < k → paying b m (right_in b (Some j)) ≡ false
    unfolding payer right_in at
    payer_lowest = first_lowest (λ r. paying b m r) free_right b.rights e

-- the choice goes by what is said of each right, and by the rights
pub payer_same : (a b : Pages) (m : Message) → ((r : Right) → paying a m r ≡ paying b m r) → a.rights ≡ b.rights → payer a m ≡ payer b m
unfolding payer
payer_same a b m h e = simp (h, e)

-- ## The purse that a right draws on

pub purse_within : {z : Sizes} (b : Pages) → Sound z b → (n : RightName) → (purse_of b n).0 ≤ (purse_limit_of n.spe).0
unfolding purse_of purse_limit_of
purse_within b s n = s.purse_in_limit
