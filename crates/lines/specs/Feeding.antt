-- What a run of characters makes of a state, and what it prints.
use Rattle.std.specs.Prelude.{ℕ, suc, ◌+◌, ◌-◌, List, [], ◌∷◌, ◌++◌, length, take, drop, set, replicate, ltb, eqb, if◌then◌else◌}
use Rattle.figures.specs.Limits.{line_digits}
use Rattle.rules.specs.Pages.{Pages, empty_book}
use Rattle.rules.specs.Calls.{After}
use Rattle.book.specs.Pages.{pages}
use Rattle.lines.specs.Types.{State, Fed}
use Rattle.lines.specs.Hex.{line_feed, printed, reply_line}
use Rattle.lines.specs.Answers.{answer}

-- ## A state

-- the book, and the line so far: its characters stand at the front, and after them what was there before
pub record Between : Type 0 where
  pub book : Pages
  pub line : List ℕ
  pub count : ℕ

abbrev pub seen : State → Between
seen s = record { book = pages s.book; line = s.line.bytes; count = s.line.count }

-- so many characters of a line tell that it is too long
abbrev pub kept : ℕ
kept = line_digits + 1

abbrev pub started : Between
started = record { book = empty_book; line = replicate kept 0; count = 0 }

-- ## One character

-- the answer to the line so far
abbrev pub answered : Between → After
answered s = answer s.book (take s.count s.line)

abbrev pub ended : Between → Between
ended s = record { book = (answered s).book; line = s.line; count = 0 }

abbrev pub longer : Between → ℕ → Between
longer s c = if ltb s.count kept then record { book = s.book; line = set s.line s.count c; count = s.count + 1 } else s

abbrev pub next : Between → ℕ → Between
next s c = if eqb c line_feed then ended s else longer s c

abbrev pub prints : Between → ℕ → List ℕ
prints s c = if eqb c line_feed then printed (answered s).reply else []

-- the room that it wants
abbrev pub wants : ℕ → ℕ
wants c = if eqb c line_feed then reply_line else 0

-- ## A run of characters

pub record Run : Type 0 where
  pub state : Between
  pub used : ℕ
  pub text : List ℕ

abbrev pub still : Between → Run
still s = record { state = s; used = 0; text = [] }

abbrev pub onward : List ℕ → Run → Run
onward t r = record { state = r.state; used = suc r.used; text = t ++ r.text }

-- takes characters until none is left, or one wants more room
unfoldable pub run : List ℕ → Between → ℕ → Run
run [] s room = still s
run (c ∷ cs) s room =
    if ltb room (wants c) then still s else onward (prints s c) (run cs (next s c) (room - wants c))

-- ## What a call leaves

pub record Left : Type 0 where
  pub state : Between
  pub used : ℕ
  pub made : ℕ
  pub buffer : List ℕ

abbrev pub left : Fed → List ℕ → Left
left f o = record { state = seen f.state; used = f.used; made = f.made; buffer = o }

-- the text stands at the front of the buffer, and later bytes are as found
abbrev pub laid : Run → List ℕ → Left
laid r o = record { state = r.state; used = r.used; made = length r.text; buffer = r.text ++ drop (length r.text) o }

unfoldable pub feeding : Between → List ℕ → List ℕ → Left
feeding s l o = laid (run l s (length o)) o

-- a last line without line feed counts if it isn't empty
unfoldable pub finishing : Between → List ℕ → Left
finishing s o = if eqb s.count 0 then laid (still s) o else feeding s (line_feed ∷ []) o
