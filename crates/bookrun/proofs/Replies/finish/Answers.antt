-- What `finish` promises of its count, and what it prints.
use Rattle.std.proofs.Common.{arith}
use Rattle.lines.proofs.Within.{finish_fills}
use Rattle.bookrun.proofs.Known.{appends_kept, on_ok}
use Rattle.bookrun.proofs.Leading.{ends_here}
use Rattle.bookrun.proofs.Replies.finish.Goals as goal

pub shared_ref_as_front-write_all : goal.shared_ref_as_front-write_all
shared_ref_as_front-write_all g c = omega (arith, (finish_fills _ _ _ c.finish-made.result c.finish-made.ensures).within)

pub returns : goal.returns
returns g c =
    let a = appends_kept _ _ _ _ c.in_ok-write_all.ensures.bytes c.flush.ensures.bytes in
    let h = ends_here _ _ _ c.finish-made.result c.finish-made.ensures (omega arith) in
    on_ok c.flush.result (_, a, h)
