-- A whole text: its lines, the replies to them in order, and what is printed: 01, The line program.
use Rattle.std.specs.Prelude.{ℕ, ◌≤◌, ◌≡◌, List, [], ◌∷◌, ◌++◌, length, take, drop, eqb, if◌then◌else◌}
use Rattle.rules.specs.Pages.{Pages}
use Rattle.lines.specs.Types.{Reply}
use Rattle.lines.specs.Hex.{line_feed, printed, reply_line}
use Rattle.lines.specs.Answers.{answer}
use Rattle.lines.specs.Feeding.{Between, Left, feeding, finishing}

-- ## Lines

-- the lines of a text, where l is what has come of the first; a last line without line feed counts if it isn't empty
abbrev pub lines_from : List ℕ → List ℕ → List (List ℕ)
lines_from [] [] = []
lines_from (a ∷ l) [] = (a ∷ l) ∷ []
lines_from l (c ∷ cs) = if eqb c line_feed then l ∷ lines_from [] cs else lines_from (l ++ (c ∷ [])) cs

abbrev pub lines_of : List ℕ → List (List ℕ)
lines_of text = lines_from [] text

-- ## Replies

-- one reply for each line, in order, from the book as the lines before it left it
abbrev pub replies : Pages → List (List ℕ) → List Reply
replies b [] = []
replies b (l ∷ ls) = (answer b l).reply ∷ replies (answer b l).book ls

-- the book that lines leave
abbrev pub book_after : Pages → List (List ℕ) → Pages
book_after b [] = b
book_after b (l ∷ ls) = book_after (answer b l).book ls

-- one after the other
abbrev pub printed_all : List Reply → List ℕ
printed_all [] = []
printed_all (r ∷ rs) = printed r ++ printed_all rs

-- the whole output for a text
abbrev pub output : Pages → List ℕ → List ℕ
output b text = printed_all (replies b (lines_of text))

-- ## Calls

-- the part of the buffer that a call filled
abbrev pub written : Left → List ℕ
written r = take r.made r.buffer

-- a state, a text and an output: the text goes to `feed` in chunks of any size, each with a buffer of any size, and what a
-- call leaves of its chunk comes first in the next; at the end there is one `finish`, with room for a reply
pub data Session : Between → List ℕ → List ℕ → Type 0 where
  finished : {s : Between} (buffer : List ℕ) → reply_line ≤ length buffer → Session s [] (written (finishing s buffer))
  fed : {s : Between} {out : List ℕ} (chunk rest buffer : List ℕ)
      → Session (feeding s chunk buffer).state (drop (feeding s chunk buffer).used chunk ++ rest) out
      → Session s (chunk ++ rest) (written (feeding s chunk buffer) ++ out)

-- ## Texts of whole lines

-- no line feed
abbrev pub OneLine : List ℕ → Type 0
OneLine [] = Unit {0}
OneLine (c ∷ cs) = (c ≡ line_feed → ⊥) × OneLine cs

abbrev pub AllOneLine : List (List ℕ) → Type 0
AllOneLine [] = Unit {0}
AllOneLine (l ∷ ls) = OneLine l × AllOneLine ls

-- each line with a line feed after it
abbrev pub joined : List (List ℕ) → List ℕ
joined [] = []
joined (l ∷ ls) = l ++ (line_feed ∷ joined ls)
