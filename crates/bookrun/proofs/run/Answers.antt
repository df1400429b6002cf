-- Each turn reads a chunk and answers it; at the end there is what `finish` prints.
use Rattle.std.specs.Io.KnownBytes.{Consumes}
use Rattle.bookrun.proofs.Known.{consumes_on, consumes_end, read_gave, was_ok, in_context}
use Rattle.bookrun.proofs.Leading.{answers_on, runs_on}
use Rattle.bookrun.proofs.run.Goals as goal
use Rattle.bookrun.proofs.run.Goals.{else-loop-test, then-loop-test+in_ok-n+then-n-eq0}

pub loop-preserved : goal.loop-preserved
loop-preserved g c =
    let k = c.loop.invariant in
    let q = read_gave _ _ _ _ _ c.in_ok-n.ensures c.read.ensures.bytes in
    let a = was_ok _ _ c.in_ok-context.ensures c.answer.ensures in
    (_, consumes_on _ _ _ _ _ k.1 q, answers_on _ _ _ _ _ _ _ _ k.2 a)

pub returns : goal.returns
returns g c =
    let k = c.loop.invariant in
    let e : Consumes (g.R.Read.remaining c.args.input.now) (g.R.Read.remaining c.loop-test.input) k.0 =
    elim c.loop-test.branch [
      | else-loop-test w ↦ rw w.input-is k.1
      | then-loop-test+in_ok-n+then-n-eq0 w ↦
          rw w.input-is (consumes_end _ _ _ _ _ _ w.if-n-eq0.true k.1 (read_gave _ _ _ _ _ w.in_ok-n.ensures w.read.ensures.bytes))
    ] in
    in_context _ _ _ _ _ (runs_on _ _ _ _ _ _ _ _ e k.2) c.context-2.ensures c.finish.ensures
