-- The answer to a line: 01, The line program.
use Rattle.std.specs.Prelude.{ℕ, ◌≡◌, List, replicate, if◌then◌else◌}
use Rattle.figures.specs.Limits.{key_bytes}
use Rattle.rules.specs.Pages.{Pages}
use Rattle.rules.specs.Calls.{After, unchanged}
use Rattle.rules.specs.Rules.{call}
use Rattle.book.specs.Pages.{pages}
use Rattle.lines.specs.Types.{Book, Reply, Refused, Unreadable}
use Rattle.lines.specs.Hex.{damaged, pairs}

-- the key buffer of 16 bytes that a line lends
abbrev pub lent : List ℕ
lent = replicate key_bytes 0

-- a damaged line gives code 11, and leaves the book as it is
unfoldable pub answer : Pages → List ℕ → After
answer b l = if damaged l then unchanged b lent (Refused Unreadable) else call b (pairs l) lent

-- the book and the reply of a call, but for the buffer
pub record Gives (b : Book) (r : Reply) (a : After) : Type 0 where
  pub book : pages b ≡ a.book
  pub reply : r ≡ a.reply
