-- Demand 3 of the code itself: by demand 2 its runs are those of the rules. Assumes nothing.
use Prim.Native.Nat.{ℕ}
use mathlib.Core.Path.{◌≡◌, ap, ◌∙◌, sym, subst}
use mathlib.Core.List.{List}
use Rattle.frames.specs.Reading.{reading}
use Rattle.rules.specs.Pages.{Pages, empty_book}
use Rattle.rules.specs.Calls.{After}
use Rattle.rules.specs.Replies.{code}
use Rattle.rules.specs.Rules.{call}
use Rattle.book.specs.Pages.{after}
use Rattle.demands.specs.Runs.{Event, called, final}
use Rattle.demands.specs.Demand2.{told}
use Rattle.demands.specs.Demand3.{never, last_given, blind, HandsOut, CodeKeysSteerNothing, CodeGrantsHandOutTheKey}
use Rattle.demands.proofs.Demand2.{run_follows, run-told}
use Rattle.demands.proofs.Steers.{keys_steer_nothing}
use Rattle.demands.proofs.Handed.{grants_hand_out_the_key}

pub code_keys_steer_nothing : CodeKeysSteerNothing
code_keys_steer_nothing b d e f cs ds rs qs h k alike one two =
    let x = run_follows empty_book h one in
    let y = run_follows empty_book k two in
    let z = keys_steer_nothing cs ds alike in
    (x.0 ∙ z.0 ∙ sym y.0, ap blind x.1 ∙ z.1 ∙ sym (ap blind y.1))

pub code_grants_hand_out_the_key : CodeGrantsHandOutTheKey
code_grants_hand_out_the_key b e cs rs h run c r u q g =
    let last : after r u ≡ called (final empty_book cs) c = q ∙ ap (λ (p : Pages). call p c.frame c.buffer) (run_follows empty_book h run).1 in
    let granted : code (called (final empty_book cs) c).reply ≡ 0x01 = sym (ap (λ (a : After). code a.reply) last) ∙ g in
    subst (λ (v : List ℕ). HandsOut (reading c.frame).frame (λ i. last_given i never (told cs rs)) v) (sym (ap (λ (a : After). a.buffer) last))
    (subst (λ (es : List Event). HandsOut (reading c.frame).frame (λ i. last_given i never es) (called (final empty_book cs) c).buffer)
    (sym (run-told empty_book h run)) (grants_hand_out_the_key cs c granted))
