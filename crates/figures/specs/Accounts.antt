-- What a right pays from: when it can pay, and what a grant leaves.
use Rattle.std.specs.Prelude.{ℕ, ◌-◌, Bool, leb, if◌then◌else◌}
use Rattle.figures.specs.Types.{Tokens, TrafficKeys, Account, Counted, Purse, Credit, ToCounter, ToPurse}
use Rattle.figures.specs.Policies.{is_counted}

-- 01, What a short term message does: its counter is at least 1, or the purse is at least its cost
abbrev pub can_pay : Tokens → Account → Bool
can_pay purse (Counted left) = leb 1 left.0
can_pay purse (Purse cost) = leb cost.0 purse.0

-- 01, Rights: 1 each grant from its own TEK counter; a cost stays
abbrev pub charged : Account → Account
charged (Counted left) = Counted (record { 0 = left.0 - 1 })
charged (Purse cost) = Purse cost

-- 01, Rights: cost tokens each grant from the user purse; a counter's grant leaves it
abbrev pub spent : Account → Tokens → Tokens
spent (Counted left) purse = purse
spent (Purse cost) purse = record { 0 = purse.0 - cost.0 }

-- the traffic keys left; a right that pays from the purse has none
abbrev pub counter : Account → TrafficKeys
counter (Counted left) = left
counter (Purse cost) = record { 0 = 0 }

-- a load's amount is traffic keys for 0C and 0D, and tokens otherwise
unfoldable pub credit_of : ℕ → ℕ → Credit
credit_of spe amount = if is_counted spe then ToCounter (record { 0 = amount }) else ToPurse (record { 0 = amount })
