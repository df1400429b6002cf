-- What `finish` promises of its count.
use Rattle.lines.proofs.Within.{finish_fills}
use Rattle.lines_cases.proofs.end.Goals as goal

pub slice_bounds-text-end : goal.slice_bounds-text-end
slice_bounds-text-end g c = (finish_fills _ _ _ c.finish-made.result c.finish-made.ensures).within

pub slice_bounds-write_all-end : goal.slice_bounds-write_all-end
slice_bounds-write_all-end g c = (finish_fills _ _ _ c.finish-made.result c.finish-made.ensures).whole
