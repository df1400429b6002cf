-- What looking at a book answers to a message: who is charged, by a walk over the rights in two parts (the lowest right that fits, and from there on the
-- lowest that can pay), or why the message is refused.
use Rattle.std.specs.Prelude.{ℕ, Bool, ◌+◌, ◌&&◌, List, drop, Option, option_map}
use Rattle.places.specs.Words.{first}
use Rattle.figures.specs.Accounts.{can_pay}
use Rattle.figures.specs.Rights.{fits}
use Rattle.rules.specs.Pages.{Pages}
use Rattle.rules.specs.Calls.{After, unchanged}
use Rattle.rules.specs.Messages.{grant}
use Rattle.book.specs.Types.{Some, Result, Ok, Err, Places, Tokens, Timestamp, Right, Message, Refusal, Refused}

-- a right that fits by this replay counter and can pay from this purse
abbrev pub pays : Message → Timestamp → Tokens → Right → Bool
pays m replay purse r = fits m replay r && can_pay purse r.account

-- the lowest such right from a place on
unfoldable pub payer_from : ℕ → Message → Timestamp → Tokens → List Right → Option ℕ
payer_from i m replay purse rights = option_map (λ j. i + j) (first (λ r. pays m replay purse r) (drop i rights))

-- a grant by the key and the right in these places, or the refusal
abbrev pub earned : Pages → List ℕ → Message → Result Places Refusal → After
earned b u m (Ok p) = grant b (Some p.key) (Some p.right) m.ts
earned b u m (Err why) = unchanged b u (Refused why)
