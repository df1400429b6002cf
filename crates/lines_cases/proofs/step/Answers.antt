-- What `feed` promises of its count.
use Rattle.lines.proofs.Within.{feed_fills}
use Rattle.lines_cases.proofs.step.Goals as goal

pub slice_bounds-text-end : goal.slice_bounds-text-end
slice_bounds-text-end g c = (feed_fills _ _ _ _ c.feed-made.result c.feed-made.ensures).within

pub slice_bounds-write_all-end : goal.slice_bounds-write_all-end
slice_bounds-write_all-end g c = (feed_fills _ _ _ _ c.feed-made.result c.feed-made.ensures).whole
