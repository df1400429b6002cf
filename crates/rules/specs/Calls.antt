-- A call is an ordered list of refusals, and what is done where none applies: 01, Replies.
use Rattle.std.specs.Prelude.{ℕ, Bool, List, [], ◌∷◌, if◌then◌else◌}
use Rattle.rules.specs.Types.{Reply}
use Rattle.rules.specs.Pages.{Pages}

infixr 15 ◌⇒◌∣◌
-- what a call leaves: the book, the reply, and the lent key buffer
pub record After : Type 0 where
  pub book : Pages
  pub reply : Reply
  pub buffer : List ℕ

-- a refusal and when it applies
pub record Check : Type 0 where
  pub test : Bool
  pub answer : Reply

-- a check before the checks that follow it in the order
abbrev pub ◌⇒◌∣◌ : Bool → Reply → List Check → List Check
t ⇒ r ∣ cs = record { test = t; answer = r } ∷ cs

-- 01, Replies: after a code of 10 or more, book and buffers are unchanged
abbrev pub unchanged : Pages → List ℕ → Reply → After
unchanged b u r = record { book = b; reply = r; buffer = u }

-- 01, Replies: the first that applies in this order; else what is done
unfoldable pub unless : Pages → List ℕ → List Check → After → After
unless b u [] done = done
unless b u (c ∷ cs) done = if c.test then unchanged b u c.answer else unless b u cs done
