-- What a load settles, and what a sum that was tested, and a settlement, tells. Assumes nothing.
use Prim.Native.Nat.{ℕ}
use mathlib.Core.Path.{◌≡◌, refl}
use mathlib.Core.Bool.{Bool, true, false}
use lib.Dec.{ltb}
use Rattle.std.specs.Prelude.{if◌then◌else◌}
use Rattle.figures.specs.Types.{Tokens, Account, Credit, Load, Settled, Some, None}
use Rattle.figures.specs.Loads.{total_of, credit_in, account_by, purse_by, over_by, settled}

-- ## A value unless a test holds

module _ {A : Type 0} where
  some_unless : (t : Bool) (n m : A) → (if t then None else Some n) ≡ Some m → (t ≡ false) × (n ≡ m)
  some_unless true n m e = cc
  some_unless false n m e = (refl, cc)

  none_if : (t : Bool) (n : A) → (if t then None else Some n) ≡ None → t ≡ true
  none_if true n e = refl
  none_if false n e = cc

pub total_sum : (l n m : ℕ) → total_of l n ≡ Some m → (ltb l n ≡ false) × (n ≡ m)
unfolding total_of
total_sum l n m = some_unless (ltb l n) n m

pub total-over : (l n : ℕ) → total_of l n ≡ None → ltb l n ≡ true
unfolding total_of
total-over l n = none_if (ltb l n) n

-- a load whose credit is k
module _ (l : Load) (held : Account) (purse : Tokens) (k : Credit) (e : credit_in l ≡ k) where
  pub settled-past : over_by k l held purse ≡ true → None ≡ settled l held purse
  unfolding settled
  settled-past h = rw (e, h)

  pub settled_within : over_by k l held purse ≡ false → Some (record { account = account_by k l held; purse = purse_by k l purse }) ≡ settled l held purse
  unfolding settled
  settled_within h = rw (e, h)

-- ## What a settlement tells

module _ (l : Load) (held : Account) (purse : Tokens) where
  pub within_tells : (m : Settled) → settled l held purse ≡ Some m
      → (over_by (credit_in l) l held purse ≡ false) × (record { account = account_by (credit_in l) l held; purse = purse_by (credit_in l) l purse } ≡ m)
  unfolding settled
  within_tells m = some_unless (over_by (credit_in l) l held purse) _ m

  pub past_tells : settled l held purse ≡ None → over_by (credit_in l) l held purse ≡ true
  unfolding settled
  past_tells = none_if (over_by (credit_in l) l held purse) _
