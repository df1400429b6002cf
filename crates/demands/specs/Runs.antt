-- Runs of calls: byte strings and lent key buffers, one after the other.
use Rattle.std.specs.Prelude.{ℕ, List, [], ◌∷◌}
use Rattle.demands.specs.Types.{Reply}
use Rattle.rules.specs.Pages.{Pages}
use Rattle.rules.specs.Calls.{After}
use Rattle.rules.specs.Rules.{call}

-- a byte string, and the key buffer that is lent with it
pub record Call : Type 0 where
  pub frame : List ℕ
  pub buffer : List ℕ

-- what can be seen of a call from outside: the byte string, and the reply to it
pub record Event : Type 0 where
  pub frame : List ℕ
  pub reply : Reply

abbrev pub called : Pages → Call → After
called b c = call b c.frame c.buffer

-- the book after a run
unfoldable pub final : Pages → List Call → Pages
final b [] = b
final b (c ∷ cs) = final (called b c).book cs

-- what was seen of a run
unfoldable pub events : Pages → List Call → List Event
events b [] = []
events b (c ∷ cs) = record { frame = c.frame; reply = (called b c).reply } ∷ events (called b c).book cs

-- the replies of a run
unfoldable pub replies : Pages → List Call → List Reply
replies b [] = []
replies b (c ∷ cs) = (called b c).reply ∷ replies (called b c).book cs
