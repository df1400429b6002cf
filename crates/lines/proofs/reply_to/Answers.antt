-- A damaged line's answer, or the book's call on the bytes decoded.
use Rattle.std.proofs.Common.{ℕ, List, sym, ap, ◌∙◌}
use Rattle.rules.specs.Calls.{After}
use Rattle.rules.specs.Rules.{call}
use Rattle.book.specs.Pages.{pages}
use Rattle.lines.specs.Answers.{lent}
use Rattle.lines.proofs.Answering.{refuses, calls}
use Rattle.lines.proofs.reply_to.Goals as goal

pub returns-in_default : goal.returns-in_default
returns-in_default c =
    let e = refuses (pages c.args.book.now) c.args.line.now (sym c.decode.ensures ∙ c.in_default.is) in
    record { book = ap (λ (x : After). x.book) (sym e); reply = ap (λ (x : After). x.reply) (sym e) }

pub returns : goal.returns
returns c =
    let e = calls (pages c.args.book.now) c.args.line.now c.in-Some.frame (sym c.decode.ensures ∙ c.in-Some.is) in
    let f = c.serve.ensures ∙ ap (λ (x : List ℕ). call (pages c.args.book.now) x lent) c.as_slice.ensures ∙ sym e in
    record { book = ap (λ (x : After). x.book) f; reply = ap (λ (x : After). x.reply) f }
