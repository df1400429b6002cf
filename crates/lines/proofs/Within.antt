-- What a caller's loop needs of the counts that `feed` and `finish` answer, from their promises. Assumes nothing.
use mathlib.Core.Path.{◌≡◌, sym, ap}
use mathlib.Core.Bool.{Bool, true, false}
use mathlib.Core.List.{List, [], ◌∷◌, ◌++◌}
use Prim.Native.Nat.{ℕ, suc, ◌-◌, ◌≤◌, ◌<◌}
use native.Mathlib.Omega.{arith}
use lib.Dec.{ltb, eqb}
use lib.ListN.{length, take, drop, length-append, length-take, length-drop}
use lib.Seq.{length-take-le}
use Rattle.std.proofs.lemmas.Bool.{cond_both}
use Rattle.std.specs.Prelude.{if◌then◌else◌}
use Rattle.lines.specs.Types.{Fed}
use Rattle.lines.specs.Hex.{line_feed, reply_line}
use Rattle.lines.specs.Feeding.{Between, wants, next, prints, Run, run, still, onward, Left, left, laid, feeding, finishing}
use Rattle.lines.proofs.Theorems.{gets_on}

-- ## The part of the buffer that is filled

-- so many bytes stand at its front: what `&out[..made]` asks
pub record Filled (made : ℕ) (o : List ℕ) : Type 0 where
  pub within : made ≤ length o
  pub whole : made ≡ length (take made o)

fills : (f : Fed) (o o' : List ℕ) (r : Run) → left f o' ≡ laid r o → Filled f.made o'
fills f o o' r e =
    let m : f.made ≡ length r.text = ap (λ (x : Left). x.made) e in
    let b : o' ≡ r.text ++ drop (length r.text) o = ap (λ (x : Left). x.buffer) e in
    let n : length o' ≡ length (r.text ++ drop (length r.text) o) = ap length b in
    let h : f.made ≤ length o' = omega (arith, simp length-append at n) in
    record { within = h; whole = sym (length-take-le f.made o' h) }

pub feed_fills : (s : Between) (l o o' : List ℕ) (f : Fed) → left f o' ≡ feeding s l o → Filled f.made o'
unfolding feeding
feed_fills s l o o' f e = fills f o o' (run l s (length o)) e

pub finish_fills : (s : Between) (o o' : List ℕ) (f : Fed) → left f o' ≡ finishing s o → Filled f.made o'
unfolding finishing
finish_fills s o o' f e = by_count (eqb s.count 0) e
  where
    by_count : (t : Bool) → left f o' ≡ (if t then laid (still s) o else feeding s (line_feed ∷ []) o) → Filled f.made o'
    by_count true e = fills f o o' (still s) e
    by_count false e = feed_fills s (line_feed ∷ []) o o' f e

-- ## The part of the input that is taken

run-taken : (l : List ℕ) (s : Between) (room : ℕ) → (run l s room).used ≤ length l
unfolding run
run-taken [] s room = omega arith
run-taken (c ∷ l) s room =
    let h = run-taken l (next s c) (room - wants c) in
    cond_both (ltb room (wants c)) (still s) (onward (prints s c) (run l (next s c) (room - wants c))) (λ (r : Run). r.used ≤ suc (length l))
    (λ _. omega arith)
    (λ _. omega arith)

-- no more than there is from a place on, and something where there is room for a reply
pub record Taken (input at out used : ℕ) : Type 0 where
  pub within : used ≤ input - at
  pub on : at < input → reply_line ≤ out → 0 < used

pub feed_takes : (s : Between) (l o o' : List ℕ) (at : ℕ) (f : Fed) → left f o' ≡ feeding s (take (length l - at) (drop at l)) o
    → Taken (length l) at (length o) f.used
unfolding feeding
feed_takes s l o o' at f e =
    let p = take (length l - at) (drop at l) in
    let n : length p ≡ length l - at = simp (length-take, length-drop) (omega arith) in
    let u : f.used ≡ (run p s (length o)).used = ap (λ (x : Left). x.used) e in
    let t : (run p s (length o)).used ≤ length p = run-taken p s (length o) in
    record { within = omega arith; on = λ h r. rw u (gets_on s p o (omega arith) r) }
