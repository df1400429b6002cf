-- Demand 2: the code follows the rules, call by call and over runs. Assumes nothing.
use mathlib.Core.Path.{◌≡◌, refl, ap, ap₂, ◌∙◌, sym}
use mathlib.Core.List.{List, ◌∷◌, map}
use contract.Lifetimes.{Lfts}
use Rattle.rules.specs.Pages.{Pages, empty_book}
use Rattle.rules.specs.Calls.{After}
use Rattle.rules.specs.Rules.{call}
use Rattle.book.specs.Pages.{pages, after}
use Rattle.book.proofs.Tight.{pages_once}
use Rattle.book.proofs.Book.call.Reads as code
use Rattle.demands.specs.Types.{Reply, Book, Called}
use Rattle.demands.specs.Runs.{Call, Event, final, events, replies}
use Rattle.demands.specs.Demand2.{Promised, Ran, none, more, told, CodeFollowsRules, CodeIsDetermined}

-- what the proved function promises is `Promised`, of what lies behind its two references at the call and at the return
pub by_promise : (κs : Lfts 2) (a : _) (r : _) (s : _) → code.Post κs a r s
    → Promised a.0 (record { frame = a.1.0.now; buffer = a.1.1.0.now }) r s.1.1.0.now
by_promise κs a r s p = p

pub run_follows : (p : Pages) {b e : Book} {cs : List Call} {rs : List Called} → pages b ≡ p → Ran b cs rs e
    → (map (λ (r : Called). r.reply) rs ≡ replies p cs) × (pages e ≡ final p cs)
unfolding replies final
run_follows p h none = (refl, h)
run_follows p h (more {c} {r} u q rest) =
    let one : after r u ≡ call p c.frame c.buffer = q ∙ ap (λ (x : Pages). call x c.frame c.buffer) h in
    let others = run_follows (call p c.frame c.buffer).book (ap (λ (a : After). a.book) one) rest in
    (ap₂ (λ (x : Reply) (xs : List Reply). x ∷ xs) (ap (λ (a : After). a.reply) one) others.0, others.1)

-- what is seen of a run of the code is what the rules say is seen
pub run-told : (p : Pages) {b e : Book} {cs : List Call} {rs : List Called} → pages b ≡ p → Ran b cs rs e → told cs rs ≡ events p cs
unfolding told events
run-told p h none = refl
run-told p h (more {c} {r} u q rest) =
    let one : after r u ≡ call p c.frame c.buffer = q ∙ ap (λ (x : Pages). call x c.frame c.buffer) h in
    ap₂ (λ (x : Reply) (xs : List Event). record { frame = c.frame; reply = x } ∷ xs) (ap (λ (a : After). a.reply) one)
    (run-told (call p c.frame c.buffer).book (ap (λ (a : After). a.book) one) rest)

pub code_follows_rules : CodeFollowsRules
code_follows_rules b e cs rs h run = run_follows empty_book h run

pub code_is_determined : CodeIsDetermined
code_is_determined b d e f cs rs qs h k one two =
    let x = run_follows empty_book h one in
    let y = run_follows empty_book k two in
    (x.0 ∙ sym y.0, pages_once e f (x.1 ∙ sym y.1))
