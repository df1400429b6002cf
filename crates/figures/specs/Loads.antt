-- What a load makes of an account and a purse: 01, What a load does.
use Rattle.std.specs.Prelude.{ℕ, ◌+◌, Bool, true, not, ◌&&◌, ◌||◌, ltb, eqb, if◌then◌else◌}
use Rattle.figures.specs.Types.{Tokens, Account, Counted, Purse, Credit, ToCounter, ToPurse, Right, Load, Settled, Option, Some, None}
use Rattle.figures.specs.Policies.{is_counted, count_limit, purse_limit_of}
use Rattle.figures.specs.Accounts.{counter, credit_of}

-- replaced by the amount (set) or raised by it (add)
unfoldable pub raised : Bool → ℕ → ℕ → ℕ
raised add before amount = if add then before + amount else amount

-- a number that must not pass a limit
unfoldable pub total_of : ℕ → ℕ → Option ℕ
total_of limit n = if ltb limit n then None else Some n

-- what a load brings
abbrev pub credit_in : Load → Credit
credit_in l = credit_of l.name.spe l.amount

-- the account that a load leaves: a right not held counts from 0, so that it is made with the amount, whichever the flag
abbrev pub account_by : Credit → Load → Account → Account
account_by (ToCounter n) l held = Counted (record { 0 = raised l.flags.add (counter held).0 n.0 })
account_by (ToPurse t) l held = Purse l.cost

-- the purse that a load leaves
abbrev pub purse_by : Credit → Load → Tokens → Tokens
purse_by (ToCounter n) l purse = purse
purse_by (ToPurse t) l purse = record { 0 = raised l.flags.add purse.0 t.0 }

-- the counter or purse that a load leaves would pass its limit
abbrev pub over_by : Credit → Load → Account → Tokens → Bool
over_by (ToCounter n) l held purse = ltb (count_limit l.name.spe).0 (raised l.flags.add (counter held).0 n.0)
over_by (ToPurse t) l held purse = ltb (purse_limit_of l.name.spe).0 (raised l.flags.add purse.0 t.0)

-- both, or that the limit is passed
unfoldable pub settled : Load → Account → Tokens → Option Settled
settled l held purse =
    if over_by (credit_in l) l held purse then None
    else Some (record { account = account_by (credit_in l) l held; purse = purse_by (credit_in l) l purse })

-- the right that a load leaves, with the account settled
unfoldable pub loaded_right : Load → Account → Right
loaded_right l account = record { held = true; name = l.name; account = account }

-- 01, Replies, 13: 0C or 0D with cost not zero
unfoldable pub costly : Load → Bool
costly l = is_counted l.name.spe && not (eqb l.cost.0 0)

-- 01, Replies, 13: 0A with any flag, amount or cost not zero
unfoldable pub laden : Load → Bool
laden l = l.flags.add || l.flags.key || not (eqb l.amount 0) || not (eqb l.cost.0 0)
