-- What was read of lent bytes is written as it stood.
use Rattle.std.proofs.Common.{◌≡◌, ℕ, List, length, sym, ap, ◌∙◌, arith}
use Rattle.std.proofs.lemmas.Result.{err_from_is_err_and}
use Rattle.figures.specs.Limits.{key_bytes}
use Rattle.frames.specs.Types.{Seen, ReadFrame}
use Rattle.frames.proofs.Tests.{key_sixteen}
use Rattle.frames.proofs.Trips.{all_bytes, copied_whole, copied_not}
use Rattle.frames.proofs.round_trips.read_and_written.Goals as goal

abbrev beside : Seen → List ℕ → ReadFrame
beside x k = record { frame = x; key = k }

pub returns-in_err-seen : goal.returns-in_err-seen
returns-in_err-seen c =
    let p = err_from_is_err_and c.from_residual.result c.from_residual.ensures.1 in
    rw (p.1, p.2) (copied_not _ _ _ (ap (λ (x : ReadFrame). x.frame) (sym c.read-seen.ensures) ∙ c.in_err-seen.was))

pub returns : goal.returns
returns c =
    let a = c.args in
    let r = c.read-seen in
    let k : length r.result.key ≡ key_bytes = ap (λ (x : ReadFrame). length x.key) r.ensures ∙ key_sixteen a.bytes.now in
    c.write.ensures ∙ copied_whole a.bytes.now a.buffer.now _ r.result.key k (all_bytes a.bytes.now (λ i. omega (arith, c.type_inv.bytes i))) (sym r.ensures ∙ ap (λ (x : Seen). beside x r.result.key) c.in_ok-seen.was)
