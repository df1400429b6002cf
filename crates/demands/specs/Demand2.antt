-- Demand 2: frames, replies and the book after each call are those of the paper. Reading what was written returns it, and writing what was
-- read returns the same bytes: those two are theorems of frames, `there_and_back` and `back_and_there`.
use Rattle.std.specs.Prelude.{ℕ, ◌≡◌, List, [], ◌∷◌, map}
use Rattle.book.specs.Pages.{pages, after}
use Rattle.rules.specs.Pages.{empty_book}
use Rattle.rules.specs.Rules.{call}
use Rattle.demands.specs.Types.{Book, Called}
use Rattle.demands.specs.Runs.{Call, Event, final, replies}

-- what `Book::call` promises of the next book, the reply and the lent buffer afterwards, and `Book::serve` of a book where it lies
abbrev pub Promised : Book → Call → Called → List ℕ → Type 0
Promised b c r u = after r u ≡ call (pages b) c.frame c.buffer

-- a run of the code: each call answers something that its promise allows, and the next call has the book that it left
pub data Ran : Book → List Call → List Called → Book → Type 0 where
  none : {b : Book} → Ran b [] [] b
  more : {b e : Book} {c : Call} {cs : List Call} {r : Called} {rs : List Called} (u : List ℕ) → Promised b c r u → Ran r.book cs rs e
      → Ran b (c ∷ cs) (r ∷ rs) e

-- what was seen of it from outside
unfoldable pub told : List Call → List Called → List Event
told [] rs = []
told (c ∷ cs) [] = []
told (c ∷ cs) (r ∷ rs) = record { frame = c.frame; reply = r.reply } ∷ told cs rs

-- the replies of a run of the code, and the book after it, are those of the rules, for every run from the empty book
abbrev pub CodeFollowsRules : Type 0
CodeFollowsRules =
    (b e : Book) (cs : List Call) (rs : List Called) → pages b ≡ empty_book → Ran b cs rs e
    → (map (λ r. r.reply) rs ≡ replies empty_book cs) × (pages e ≡ final empty_book cs)

-- the rules determine them: two runs of the same calls from the empty book coincide
abbrev pub CodeIsDetermined : Type 0
CodeIsDetermined =
    (b d e f : Book) (cs : List Call) (rs qs : List Called) → pages b ≡ empty_book → pages d ≡ empty_book → Ran b cs rs e → Ran d cs qs f
    → (map (λ r. r.reply) rs ≡ map (λ r. r.reply) qs) × (e ≡ f)
