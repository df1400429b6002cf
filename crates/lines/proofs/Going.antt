-- A turn of `feed`'s loop, on plain values. Assumes nothing.
use mathlib.Core.Path.{◌≡◌, refl, sym, ap, ap₂, ◌∙◌}
use mathlib.Core.Logic.{⊎_elim}
use mathlib.Core.List.{List, [], ◌∷◌, ◌++◌, append_assoc, append-nil}
use Prim.Native.Nat.{ℕ, zero, suc, ◌+◌, ◌-◌, ◌≤◌, ◌<◌, min}
use native.Mathlib.Nat.{zero-add, add-zero, sub-zero}
use native.Mathlib.Numerals.{add-one}
use native.Mathlib.Omega.{arith}
use borrow.Author.Tests.{lt-ltb, le-ltb, ne_eqb}
use lib.Dec.{ltb}
use lib.ListN.{length, set, take, drop, get_or, length-append, drop_of_length-le}
use lib.Seq.{paste, drop-cons, take_at, take_all}
use Rattle.std.proofs.lemmas.Bool.{cases_lt}
use Rattle.places.proofs.Lists.{if_map}
use Rattle.rules.specs.Pages.{Pages}
use Rattle.lines.specs.Types.{Row}
use Rattle.lines.specs.Rows.{pushed, all_pushed}
use Rattle.lines.specs.Hex.{line_feed, printed, reply_line}
use Rattle.lines.specs.Feeding.{Between, kept, answered, ended, longer, Run, still, onward, run, laid}
use Rattle.std.proofs.lemmas.Slice.{drop-append-drop}
use Rattle.lines.proofs.Printing.{printed_long}
use Rattle.lines.proofs.Finding.{Plain}

-- ## The next character

module _ (l : List ℕ) (s : Between) (room i : ℕ) where
  run_end : length l ≤ i → run (drop i l) s room ≡ still s
  unfolding run
  run_end h = rw (drop_of_length-le l h)

  module _ (h : i < length l) where
    opened : drop i l ≡ get_or l i 0 ∷ drop (i + 1) l
    opened = let e : i + 1 ≡ suc i = omega arith in rw e (drop-cons l i 0 h)

    run-full : get_or l i 0 ≡ line_feed → room < reply_line → run (drop i l) s room ≡ still s
    unfolding run
    run-full e g = rw (opened, e, lt-ltb room reply_line g)

    run_line : get_or l i 0 ≡ line_feed → reply_line ≤ room
        → run (drop i l) s room ≡ onward (printed (answered s).reply) (run (drop (i + 1) l) (ended s) (room - reply_line))
    unfolding run
    run_line e g = rw (opened, e, le-ltb room reply_line g)

    run_char : (get_or l i 0 ≡ line_feed → ⊥) → run (drop i l) s room ≡ onward [] (run (drop (i + 1) l) (longer s (get_or l i 0)) (room - 0))
    unfolding run
    run_char e = rw (opened, ne_eqb (get_or l i 0) line_feed e, le-ltb room 0 (omega arith))

-- a book, and a row with the line so far
abbrev pub held : Pages → Row kept → Between
held b r = record { book = b; line = r.bytes; count = r.count }

-- a character more in the row is one more in the state
held_longer : (b : Pages) (r : Row kept) (c : ℕ) → held b (pushed r c) ≡ longer (held b r) c
held_longer b r c = sym (if_map (held b) (ltb r.count kept) (record { bytes = set r.bytes r.count c; count = r.count + 1 }) r)

abbrev pub all_longer : Between → List ℕ → Between
all_longer s [] = s
all_longer s (c ∷ cs) = all_longer (longer s c) cs

pub held_all_longer : (b : Pages) (r : Row kept) (cs : List ℕ) → held b (all_pushed r cs) ≡ all_longer (held b r) cs
held_all_longer b r [] = refl
held_all_longer b r (c ∷ cs) = held_all_longer b (pushed r c) cs ∙ ap (λ (s : Between). all_longer s cs) (held_longer b r c)

-- as many characters as are kept
pub take-kept : (s : Between) (n : ℕ) → length s.line ≡ kept → n ≡ min s.count kept → take n s.line ≡ take s.count s.line
take-kept s n k e = ⊎_elim some all (cases_lt s.count kept)
  where
    some : s.count < kept → take n s.line ≡ take s.count s.line
    some h = let m : n ≡ s.count = omega arith in rw m refl

    all : kept ≤ s.count → take n s.line ≡ take s.count s.line
    all h = take_all n s.line (omega arith) ∙ sym (take_all s.count s.line (omega arith))

-- ## The loop

abbrev shift : ℕ → List ℕ → Run → Run
shift i t r = record { state = r.state; used = i + r.used; text = t ++ r.text }

shift-onward : (i : ℕ) (t p : List ℕ) (r : Run) → shift i t (onward p r) ≡ shift (i + 1) (t ++ p) r
shift-onward i t p r =
    let e : i + suc r.used ≡ i + 1 + r.used = omega arith in
    ap₂ (λ (u : ℕ) (x : List ℕ). record { state = r.state; used = u; text = x }) e (sym (append_assoc t p r.text))

-- after `used` characters: what was printed, and what is still to come
pub record Going (l o₀ : List ℕ) (s₀ : Between) (o : List ℕ) (s : Between) (used made : ℕ) : Type 0 where
  pub text : List ℕ
  pub many : length text ≡ made
  pub room : made ≤ length o₀
  pub is : o ≡ text ++ drop made o₀
  pub within : used ≤ length l
  pub rest : run l s₀ (length o₀) ≡ shift used text (run (drop used l) s (length o₀ - made))

pub going_start : (l o : List ℕ) (s : Between) → Going l o s o s 0 0
going_start l o s = record {
  text = [];
  many = refl;
  room = omega arith;
  is = refl;
  within = omega arith;
  rest = rw (sub-zero, zero-add) refl;
}

module _ {l o₀ : List ℕ} {s₀ : Between} {o : List ℕ} {s : Between} {used made : ℕ} (g : Going l o₀ s₀ o s used made) where
  -- what the buffer is after a line more
  laid_on : (p : List ℕ) → paste o made p (length p) ≡ (g.text ++ p) ++ drop (made + length p) o₀
  laid_on p =
      rw (
        g.is,
        take_at g.text (drop made o₀) made g.many,
        take_all (length p) p (omega arith),
        drop-append-drop made o₀ g.text (made + length p) (omega arith) g.many,
      ) refl

  -- a line feed, with room for the reply
  pub going_line : used < length l → get_or l used 0 ≡ line_feed → reply_line ≤ length o₀ - made → (o' : List ℕ)
      → o' ≡ paste o made (printed (answered s).reply) (length (printed (answered s).reply))
      → Going l o₀ s₀ o' (ended s) (used + 1) (made + reply_line)
  going_line h e r o' w =
      let p = printed (answered s).reply in
      let n : length p ≡ reply_line = printed_long (answered s).reply in
      let m : length o₀ - made - reply_line ≡ length o₀ - (made + reply_line) = omega arith in
      record {
        text = g.text ++ p;
        many = length-append g.text p ∙ ap₂ ◌+◌ g.many n;
        room = omega arith;
        within = omega arith;
        is = w ∙ laid_on p ∙ ap (λ (x : ℕ). (g.text ++ p) ++ drop (made + x) o₀) n;
        rest =
            g.rest
            ∙ ap (shift used g.text) (run_line l s (length o₀ - made) used h e r)
            ∙ shift-onward used g.text p _
            ∙ ap (λ (x : ℕ). shift (used + 1) (g.text ++ p) (run (drop (used + 1) l) (ended s) x)) m;
      }

  -- any other character
  going_char : used < length l → (get_or l used 0 ≡ line_feed → ⊥) → Going l o₀ s₀ o (longer s (get_or l used 0)) (used + 1) made
  going_char h e =
      let s' = longer s (get_or l used 0) in
      record {
        text = g.text;
        many = g.many;
        room = g.room;
        within = omega arith;
        is = g.is;
        rest =
            g.rest
            ∙ ap (shift used g.text) (run_char l s (length o₀ - made) used h e)
            ∙ shift-onward used g.text [] _
            ∙ rw (append-nil, sub-zero) refl;
      }

  stopped : run (drop used l) s (length o₀ - made) ≡ still s
      → record { state = s; used = used; made = made; buffer = o } ≡ laid (run l s₀ (length o₀)) o₀
  stopped q =
      let e : run l s₀ (length o₀) ≡ record { state = s; used = used; text = g.text } =
      g.rest
      ∙ ap (shift used g.text) q
      ∙ ap₂ (λ (u : ℕ) (x : List ℕ). record { state = s; used = u; text = x }) (add-zero used) (append-nil g.text) in
      ap (λ (x : List ℕ). record { state = s; used = used; made = made; buffer = x }) g.is
      ∙ ap (λ (n : ℕ). record { state = s; used = used; made = n; buffer = g.text ++ drop n o₀ }) (sym g.many)
      ∙ sym (ap (λ (x : Run). laid x o₀) e)

  pub going_end : used ≡ length l → record { state = s; used = length l; made = made; buffer = o } ≡ laid (run l s₀ (length o₀)) o₀
  going_end h =
      ap (λ (u : ℕ). record { state = s; used = u; made = made; buffer = o }) (sym h)
      ∙ stopped (run_end l s (length o₀ - made) used (omega arith))

  pub going_full : used < length l → get_or l used 0 ≡ line_feed → length o₀ - made < reply_line
      → record { state = s; used = used; made = made; buffer = o } ≡ laid (run l s₀ (length o₀)) o₀
  going_full h e r = stopped (run-full l s (length o₀ - made) used h e r)

-- characters that are no line feed, taken at once
pub going_chars : (n : ℕ) {l o₀ : List ℕ} {s₀ : Between} {o : List ℕ} {s : Between} {used made : ℕ} → Going l o₀ s₀ o s used made → used + n ≤ length l
    → Plain l used n → Going l o₀ s₀ o (all_longer s (take n (drop used l))) (used + n) made
going_chars zero {used = used} g h f = rw (add-zero used) g
going_chars (suc n) {l} {s = s} {used = used} g h f =
    let c = get_or l used 0 in
    let e : drop used l ≡ c ∷ drop (used + 1) l = rw add-one (drop-cons l used 0 (omega arith)) in
    let m : used + suc n ≡ used + 1 + n = omega arith in
    let first = going_char g (omega arith) (rw (add-zero used) at (f 0 (omega arith))) in
    let later : Plain l (used + 1) n = λ k i. let j : used + 1 + k ≡ used + suc k = omega arith in rw j (f (suc k) (omega arith)) in
    rw (m, e) (going_chars n first (omega arith) later)
