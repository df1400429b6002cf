-- What a search for a line feed in the rest of a text says of the text. Assumes nothing.
use mathlib.Core.Path.{◌≡◌, sym, ap, ◌∙◌}
use mathlib.Core.List.{List}
use Prim.Native.Nat.{ℕ, ◌+◌, ◌-◌, ◌<◌}
use native.Mathlib.Omega.{arith}
use borrow.Author.Tests.{eq-eqb, eqb-true}
use lib.ListN.{length, take, drop, get_or, length-drop}
use Rattle.std.proofs.lemmas.List.{get_or-drop, take_rest}
use Rattle.memchr.specs.Find.{Nowhere, NoneBefore, Passes, is_byte}
use Rattle.lines.specs.Hex.{line_feed}

-- from `used` on there are n characters, none a line feed
abbrev pub Plain : List ℕ → ℕ → ℕ → Type 0
Plain l used n = (k : ℕ) → k < n → get_or l (used + k) 0 ≡ line_feed → ⊥

-- and then a line feed
pub record Found (l : List ℕ) (used n : ℕ) : Type 0 where
  pub within : used + n < length l
  pub plain : Plain l used n
  pub ends : get_or l (used + n) 0 ≡ line_feed

module _ (l : List ℕ) (used : ℕ) where
  abbrev rest : List ℕ
  rest = take (length l - used) (drop used l)

  rest-at : (k : ℕ) → get_or rest k 0 ≡ get_or l (used + k) 0
  rest-at k = ap (λ (t : List ℕ). get_or t k 0) (take_rest l used) ∙ get_or-drop used l k 0

  rest_long : length rest ≡ length l - used
  rest_long = ap length (take_rest l used) ∙ length-drop used l

  plain_before : (n : ℕ) → Nowhere (Passes (is_byte line_feed) rest) 0 n → Plain l used n
  plain_before n h k i e = h k (omega arith) i (eq-eqb (get_or rest k 0) line_feed (rest-at k ∙ e))

  pub found : (n : ℕ) → NoneBefore (Passes (is_byte line_feed) rest) 0 (length rest) n × Passes (is_byte line_feed) rest n → Found l used n
  found n h = record {
    within = omega (arith, h.0.high, rest_long);
    plain = plain_before n h.0.before;
    ends = sym (rest-at n) ∙ eqb-true (get_or rest n 0) line_feed h.1;
  }

  pub none_left : Nowhere (Passes (is_byte line_feed) rest) 0 (length rest) → Plain l used (length l - used)
  none_left h k i e = plain_before (length rest) h k (omega (arith, rest_long)) e
