-- What the states of a session hold of the lines, and what a session prints. Assumes nothing.
use mathlib.Core.Path.{◌≡◌, refl, sym, ap, ap₂, ◌∙◌}
use mathlib.Core.Logic.{⊎_elim}
use mathlib.Core.Bool.{Bool, true, false}
use mathlib.Core.List.{List, [], ◌∷◌, ◌++◌, append_assoc, append-nil}
use Prim.Native.Nat.{ℕ, suc, ◌+◌, ◌-◌, ◌≤◌, ◌<◌, min}
use native.Mathlib.Nat.{min-eq_left, min-eq_right}
use native.Mathlib.Omega.{arith}
use native.Mathlib.Numerals.{add-one}
use borrow.Author.Tests.{lt-ltb, le-ltb, ne_eqb}
use lib.ListN.{length, take, drop, replicate, length-append, length-set}
use lib.Seq.{take_all, take_at, take-suc-set, take-append-le, length-take-le}
use lib.Dec.{ltb, eqb}
use Rattle.std.proofs.lemmas.Bool.{cases_lt, cond_both}
use Rattle.std.specs.Prelude.{if◌then◌else◌}
use Rattle.figures.specs.Limits.{line_digits}
use Rattle.rules.specs.Pages.{Pages}
use Rattle.rules.specs.Calls.{After}
use Rattle.lines.specs.Hex.{line_feed, printed, reply_line}
use Rattle.lines.specs.Answers.{answer}
use Rattle.lines.specs.Feeding.{Between, kept, answered, ended, longer, next, prints, wants, Run, run, still, onward, laid, feeding, finishing}
use Rattle.lines.specs.Texts.{lines_from, replies, printed_all, written, Session, finished, fed}
use Rattle.lines.proofs.Spelling.{damaged_long}
use Rattle.lines.proofs.Answering.{answer-damaged}

-- ## A whole text from a state

-- what is printed for the rest of a text
abbrev pub spoken : Between → List ℕ → List ℕ
spoken s [] = if eqb s.count 0 then [] else printed (answered s).reply
spoken s (c ∷ cs) = prints s c ++ spoken (next s c) cs

-- a run prints its part, and leaves the rest to be printed
abbrev Leaves : List ℕ → List ℕ → Between → Run → Type 0
Leaves l rest s r = spoken s (l ++ rest) ≡ r.text ++ spoken r.state (drop r.used l ++ rest)

run-spoken : (l rest : List ℕ) (s : Between) (room : ℕ) → Leaves l rest s (run l s room)
unfolding run
run-spoken [] rest s room = refl
run-spoken (c ∷ l) rest s room =
    let r = run l (next s c) (room - wants c) in
    cond_both (ltb room (wants c)) (still s) (onward (prints s c) r) (Leaves (c ∷ l) rest s) (λ _. refl)
    (λ _.
    ap (λ (t : List ℕ). prints s c ++ t) (run-spoken l rest (next s c) (room - wants c))
    ∙ sym (append_assoc (prints s c) r.text (spoken r.state (drop r.used l ++ rest))))

-- the last call prints what is left
finish_if : (t : Bool) (s : Between) (o : List ℕ) → reply_line ≤ length o
    → written (if t then laid (still s) o else feeding s (line_feed ∷ []) o) ≡ (if t then [] else printed (answered s).reply)
unfolding run feeding
finish_if true s o h = refl
finish_if false s o h =
    rw (le-ltb (length o) reply_line h) (take_at (printed (answered s).reply ++ []) _ _ refl ∙ append-nil (printed (answered s).reply))

pub session_spoken : {s : Between} {text out : List ℕ} → Session s text out → out ≡ spoken s text
unfolding feeding finishing
session_spoken {s} (finished o h) = finish_if (eqb s.count 0) s o h
session_spoken {s} (fed l rest o more) =
    let r = run l s (length o) in
    ap₂ (λ (x y : List ℕ). x ++ y) (take_at r.text _ (length r.text) refl) (session_spoken more)
    ∙ sym (run-spoken l rest s (length o))

-- a character wants room for no more than a reply
pub wants_little : (c : ℕ) → wants c ≤ reply_line
wants_little c = cond_both (eqb c line_feed) reply_line 0 (λ (n : ℕ). n ≤ reply_line) (λ _. omega arith) (λ _. omega arith)

-- one character, with room for a reply, is taken
one : (s : Between) (c : ℕ) (o : List ℕ) → reply_line ≤ length o → run (c ∷ []) s (length o) ≡ onward (prints s c) (still (next s c))
unfolding run
one s c o h = let k : wants c ≤ reply_line = wants_little c in rw (le-ltb (length o) (wants c) (omega arith))

-- every text has a session: one character a call
pub session_for : (text : List ℕ) (s : Between) → Session s text (spoken s text)
unfolding feeding finishing
session_for [] s = let o : List ℕ = replicate reply_line 0 in rw (finish_if (eqb s.count 0) s o (omega arith)) at (finished {s = s} o (omega arith))
session_for (c ∷ text) s =
    let o : List ℕ = replicate reply_line 0 in
    let e : run (c ∷ []) s (length o) ≡ onward (prints s c) (still (next s c)) = one s c o (omega arith) in
    let w : written (feeding s (c ∷ []) o) ≡ prints s c =
    rw e (take_at (prints s c ++ []) _ (length (prints s c ++ [])) refl ∙ append-nil (prints s c)) in
    rw w at (fed {s = s} {out = spoken (next s c) text} (c ∷ []) text o (rw e (session_for text (next s c))))

-- ## What a state holds of the line so far

-- the book as the lines before left it, and the first characters of the line l
pub record Holds (s : Between) (b : Pages) (l : List ℕ) : Type 0 where
  pub book : s.book ≡ b
  pub long : length s.line ≡ kept
  pub many : s.count ≡ min (length l) kept
  pub same : take s.count s.line ≡ take kept l

pub holds_start : (b : Pages) (line : List ℕ) → length line ≡ kept → Holds (record { book = b; line = line; count = 0 }) b []
holds_start b line k = record { book = refl; long = k; many = refl; same = refl }

holds_more : (s : Between) (b : Pages) (l : List ℕ) (c : ℕ) → Holds s b l → Holds (longer s c) b (l ++ (c ∷ []))
holds_more s b l c h = ⊎_elim few enough (cases_lt (length l) kept)
  where
    n : length (l ++ (c ∷ [])) ≡ length l + 1
    n = length-append l (c ∷ [])

    few : length l < kept → Holds (longer s c) b (l ++ (c ∷ []))
    few k =
        let z : s.count ≡ length l = h.many ∙ min-eq_left (omega arith) in
        let j : s.count < kept = omega arith in
        let w : take kept l ≡ l = take_all kept l (omega arith) in
        rw (lt-ltb s.count kept j)
        (record {
          book = h.book;
          long = simp length-set h.long;
          many = ap (λ (x : ℕ). x + 1) z ∙ sym (n) ∙ sym (min-eq_left (omega (arith, n)));
          same =
              rw add-one (take-suc-set s.line s.count c (omega (arith, h.long)))
              ∙ ap (λ (x : List ℕ). x ++ (c ∷ [])) (h.same ∙ w)
              ∙ sym (take_all kept (l ++ (c ∷ [])) (omega (arith, n)));
        })

    enough : kept ≤ length l → Holds (longer s c) b (l ++ (c ∷ []))
    enough k =
        let z : s.count ≡ kept = h.many ∙ min-eq_right k in
        rw (le-ltb s.count kept (omega arith))
        (record {
          book = h.book;
          long = h.long;
          many = z ∙ sym (min-eq_right (omega (arith, n)));
          same = h.same ∙ sym (take-append-le kept l (c ∷ []) k);
        })

-- the characters kept tell the answer
answer-kept : (b : Pages) (l : List ℕ) → answer b (take kept l) ≡ answer b l
answer-kept b l = ⊎_elim too_long whole (cases_lt line_digits (length l))
  where
    too_long : line_digits < length l → answer b (take kept l) ≡ answer b l
    too_long h =
        let k : length (take kept l) ≡ kept = length-take-le kept l (omega arith) in
        answer-damaged b (take kept l) (damaged_long (take kept l) (omega arith)) ∙ sym (answer-damaged b l (damaged_long l h))

    whole : length l ≤ line_digits → answer b (take kept l) ≡ answer b l
    whole h = ap (answer b) (take_all kept l (omega arith))

holds_answer : (s : Between) (b : Pages) (l : List ℕ) → Holds s b l → answered s ≡ answer b l
holds_answer s b l h = ap₂ (λ (x : Pages) (y : List ℕ). answer x y) h.book h.same ∙ answer-kept b l

-- ## What is printed is the replies to the lines

spoken_end : (s : Between) (b : Pages) (l : List ℕ) → Holds s b l → spoken s [] ≡ printed_all (replies b (lines_from l []))
spoken_end s b [] h = ap (λ (n : ℕ). if eqb n 0 then [] else printed (answered s).reply) h.many
spoken_end s b (a ∷ l) h =
    let z : s.count ≡ min (suc (length l)) kept = h.many in
    rw (ne_eqb s.count 0 (omega arith))
    (ap (λ (x : After). printed x.reply) (holds_answer s b (a ∷ l) h) ∙ sym (append-nil (printed (answer b (a ∷ l)).reply)))

turn : (t : Bool) (b : Pages) (x y : Between) (p : List ℕ) (u v : List (List ℕ)) (text : List ℕ)
    → (t ≡ true → p ++ spoken x text ≡ printed_all (replies b u)) → (t ≡ false → spoken y text ≡ printed_all (replies b v))
    → (if t then p else []) ++ spoken (if t then x else y) text ≡ printed_all (replies b (if t then u else v))
turn true b x y p u v text f g = f refl
turn false b x y p u v text f g = g refl

pub spoken_lines : (text l : List ℕ) (s : Between) (b : Pages) → Holds s b l → spoken s text ≡ printed_all (replies b (lines_from l text))
spoken_lines [] l s b h = spoken_end s b l h
spoken_lines (c ∷ text) l s b h =
    let e = holds_answer s b l h in
    turn (eqb c line_feed) b (ended s) (longer s c) (printed (answered s).reply) (l ∷ lines_from [] text) (lines_from (l ++ (c ∷ [])) text) text
    (λ f.
    ap₂ (λ (x y : List ℕ). x ++ y)
    (ap (λ (x : After). printed x.reply) e)
    (spoken_lines text [] (ended s) (answer b l).book (rw e (holds_start (answer b l).book s.line h.long))))
    (λ f. spoken_lines text (l ++ (c ∷ [])) (longer s c) b (holds_more s b l c h))
