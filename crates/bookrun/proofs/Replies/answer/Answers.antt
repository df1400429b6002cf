-- What `feed` promises of its counts, that it gets on, and what it prints.
use Rattle.std.proofs.Common.{◌<◌, length, arith, rules}
use Rattle.lines.proofs.Within.{feed_fills}
use Rattle.bookrun.proofs.Known.{appends_on}
use Rattle.bookrun.proofs.Taking.{taken}
use Rattle.bookrun.proofs.Leading.{leads_on}
use Rattle.bookrun.proofs.Replies.answer.Goals as goal

pub shared_ref_as_front-write_all : goal.shared_ref_as_front-write_all
shared_ref_as_front-write_all g c = omega (arith, (feed_fills _ _ _ _ c.feed-used.result c.feed-used.ensures).within)

pub split_at-requires : goal.split_at-requires
split_at-requires g c =
    let w = taken _ _ _ _ c.feed-used.result c.feed-used.ensures in
    omega (arith, w.within)

pub loop-rest-smaller : goal.loop-rest-smaller
loop-rest-smaller g c =
    let w = taken _ _ _ _ c.feed-used.result c.feed-used.ensures in
    let n : 0 < length c.loop-rest.rest.now = search rules in
    omega (arith, c.split_at.ensures.back_len, w.on (omega arith) (omega arith))

pub loop-rest-preserved : goal.loop-rest-preserved
loop-rest-preserved g c =
    let k = c.loop-rest.invariant in
    let a = appends_on _ _ _ k.0 _ k.1 c.in_ok-write_all.ensures.bytes in
    let h = leads_on _ _ _ _ k.0 _ _ c.feed-used.result c.feed-used.ensures k.2 in
    (_, a, rw c.split_at.ensures.back h)
