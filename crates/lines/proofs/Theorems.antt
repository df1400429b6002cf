-- What the line program comes to. Each statement follows from the laws that it cites. Assumes nothing.
use mathlib.Core.Path.{◌≡◌, refl, sym, ap, ◌∙◌}
use mathlib.Core.Bool.{Bool, true, false}
use mathlib.Core.List.{List, [], ◌∷◌, ◌++◌, append_assoc, append-nil}
use Prim.Native.Nat.{ℕ, suc, ◌*◌, ◌≤◌, ◌<◌}
use native.Mathlib.Omega.{arith}
use borrow.Author.Tests.{le-leb, lt-leb, le-ltb, ne_eqb}
use lib.Dec.{eqb}
use lib.ListN.{length, length-append}
use Rattle.std.proofs.Math.Bool.{and-false}
use Rattle.std.specs.Prelude.{if◌then◌else◌}
use Rattle.rules.specs.Pages.{Pages, empty_book}
use Rattle.rules.specs.Calls.{unchanged}
use Rattle.lines.specs.Types.{Refused, Unreadable}
use Rattle.lines.specs.Hex.{line_feed, digit_value, is_digit, all_digits, damaged, printed, reply_line}
use Rattle.lines.specs.Answers.{lent, answer}
use Rattle.lines.specs.Feeding.{Between, started, wants, run, feeding}
use Rattle.lines.specs.Texts.{lines_from, lines_of, replies, book_after, printed_all, output, Session, OneLine, AllOneLine, joined}
use Rattle.lines.proofs.Spelling.{damaged-other}
use Rattle.lines.proofs.Answering.{answer-damaged}
use Rattle.lines.proofs.Printing.{printed_long}
use Rattle.lines.proofs.Whole.{wants_little, session_spoken, session_for, spoken_lines, holds_start}

-- ## The whole output

-- however a text is cut into chunks, and whatever buffers are lent: each line gets its one reply, in order, from the book as
-- the lines before it left it, and a last line without line feed counts if it isn't empty
pub session : (text out : List ℕ) → Session started text out → out ≡ output empty_book text
session text out h = session_spoken h ∙ spoken_lines text [] started empty_book (holds_start empty_book started.line refl)

-- and every text has a session
pub sessions : (text : List ℕ) → Session started text (output empty_book text)
sessions text = rw (spoken_lines text [] started empty_book (holds_start empty_book started.line refl)) at (session_for text started)

-- so two sessions on one text print the same
pub cuts_alike : (text out out' : List ℕ) → Session started text out → Session started text out' → out ≡ out'
cuts_alike text out out' h h' = session text out h ∙ sym (session text out' h')

-- a call with input and with room for a reply takes at least one character
pub gets_on : (s : Between) (l o : List ℕ) → 0 < length l → reply_line ≤ length o → 0 < (feeding s l o).used
unfolding run feeding
gets_on s [] o h r = absurd (omega arith)
gets_on s (c ∷ l) o h r = let k : wants c ≤ reply_line = wants_little c in rw (le-ltb (length o) (wants c) (omega arith)) (omega arith)

-- ## Lines and replies

-- each line gets one reply
pub one_each : (b : Pages) (ls : List (List ℕ)) → length (replies b ls) ≡ length ls
one_each b [] = refl
one_each b (l ∷ ls) = ap suc (one_each (answer b l).book ls)

-- and each reply is as long
pub output_long : (b : Pages) (ls : List (List ℕ)) → length (printed_all (replies b ls)) ≡ length ls * reply_line
output_long b [] = refl
output_long b (l ∷ ls) =
    let p = printed (answer b l).reply in
    let n : length p ≡ reply_line = printed_long (answer b l).reply in
    let e : length (printed_all (replies (answer b l).book ls)) ≡ length ls * reply_line = output_long (answer b l).book ls in
    simp length-append (omega arith)

-- in order, from the book as the lines before left it
pub in_order : (b : Pages) (ls ms : List (List ℕ)) → replies b (ls ++ ms) ≡ replies b ls ++ replies (book_after b ls) ms
in_order b [] ms = refl
in_order b (l ∷ ls) ms = ap (λ rs. (answer b l).reply ∷ rs) (in_order (answer b l).book ls ms)

lines_from_lem : (a l : List ℕ) (ls : List (List ℕ)) → OneLine l → lines_from a (l ++ (line_feed ∷ joined ls)) ≡ (a ++ l) ∷ lines_of (joined ls)
lines_from_lem a [] ls h = ap (λ (x : List ℕ). x ∷ lines_of (joined ls)) (sym (append-nil a))
lines_from_lem a (c ∷ l) ls h =
    rw (ne_eqb c line_feed h.0)
    (lines_from_lem (a ++ (c ∷ [])) l ls h.1 ∙ ap (λ (x : List ℕ). x ∷ lines_of (joined ls)) (append_assoc a (c ∷ []) l))

-- the lines of a text of lines, each ended by a line feed, are those lines
pub lines_joined : (ls : List (List ℕ)) → AllOneLine ls → lines_of (joined ls) ≡ ls
lines_joined [] h = refl
lines_joined (l ∷ ls) h = lines_from_lem [] l ls h.0 ∙ ap (λ (ms : List (List ℕ)). l ∷ ms) (lines_joined ls h.1)

-- ## The last line

last_if : (t : Bool) (u v u' v' : List (List ℕ)) → u ≡ u' → v ≡ v' → (if t then u else v) ≡ (if t then u' else v')
last_if true u v u' v' p q = p
last_if false u v u' v' p q = q

last_end : (l : List ℕ) (c : ℕ) → lines_from (l ++ (c ∷ [])) [] ≡ (l ++ (c ∷ [])) ∷ []
last_end [] c = refl
last_end (a ∷ l) c = refl

last_from : (l text : List ℕ) (c : ℕ) → (c ≡ line_feed → ⊥) → lines_from l (text ++ (c ∷ [])) ≡ lines_from l (text ++ (c ∷ line_feed ∷ []))
last_from l [] c h = rw (ne_eqb c line_feed h) (last_end l c)
last_from l (d ∷ text) c h =
    last_if (eqb d line_feed) (l ∷ lines_from [] (text ++ (c ∷ []))) (lines_from (l ++ (d ∷ [])) (text ++ (c ∷ []))) _ _
    (ap (λ (ms : List (List ℕ)). l ∷ ms) (last_from [] text c h))
    (last_from (l ++ (d ∷ [])) text c h)

-- a last line that isn't empty counts without its line feed as with it
pub last_line : (b : Pages) (text : List ℕ) (c : ℕ) → (c ≡ line_feed → ⊥) → output b (text ++ (c ∷ [])) ≡ output b (text ++ (c ∷ line_feed ∷ []))
last_line b text c h = ap (λ ls. printed_all (replies b ls)) (last_from [] text c h)

-- after the last line feed there is no further line
pub no_further : (b : Pages) (ls : List (List ℕ)) → AllOneLine ls → length (replies b (lines_of (joined ls))) ≡ length ls
no_further b ls h = one_each b (lines_of (joined ls)) ∙ ap length (lines_joined ls h)

-- ## Damaged lines

-- a damaged line gives code 11, and leaves the book as it is
pub damaged_line_lem : (b : Pages) (l : List ℕ) → damaged l ≡ true → answer b l ≡ unchanged b lent (Refused Unreadable)
damaged_line_lem b l h = answer-damaged b l h

not_digits : (l m : List ℕ) (c : ℕ) → is_digit c ≡ false → all_digits (l ++ (c ∷ m)) ≡ false
not_digits [] m c h = rw h
not_digits (a ∷ l) m c h = rw (not_digits l m c h) (and-false (is_digit a))

-- another character anywhere damages a line
pub other_character : (l m : List ℕ) (c : ℕ) → is_digit c ≡ false → damaged (l ++ (c ∷ m)) ≡ true
other_character l m c h = damaged-other (l ++ (c ∷ m)) (not_digits l m c h)

-- carriage return and lower case too
pub carriage_return : is_digit 13 ≡ false
unfolding digit_value
carriage_return = refl

pub lower_case : (c : ℕ) → 97 ≤ c → is_digit c ≡ false
unfolding digit_value
lower_case c h = simp (le-leb 48 c (omega arith), lt-leb c 57 (omega arith), le-leb 65 c (omega arith), lt-leb c 70 (omega arith))
