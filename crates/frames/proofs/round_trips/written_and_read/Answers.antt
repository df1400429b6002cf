-- The longest frame fits the buffer, and what the code holds fits its widths.
use Rattle.std.proofs.Common.{◌∙◌, rules}
use Rattle.frames.proofs.Held.{held_fits}
use Rattle.frames.proofs.Trips.{counted, filled}
use Rattle.frames.proofs.round_trips.written_and_read.Goals as goal

pub slice_bounds-buffer-end : goal.slice_bounds-buffer-end
slice_bounds-buffer-end c = (filled c.args.frame c.args.key _ _ (search rules) c.write.ensures _ c.in-Ok.is).fits

pub slice_bounds-read-end : goal.slice_bounds-read-end
slice_bounds-read-end c = (filled c.args.frame c.args.key _ _ (search rules) c.write.ensures _ c.in-Ok.is).many

pub returns-in-Ok : goal.returns-in-Ok
returns-in-Ok c = c.read.ensures ∙ (filled c.args.frame c.args.key _ _ (search rules) c.write.ensures _ c.in-Ok.is).back (held_fits c.args.frame _ c.well_formed.0)

pub returns-in-Err : goal.returns-in-Err
returns-in-Err c = let a = counted c.args.frame c.args.key c.write.result c.write.new.buffer (search rules) c.write.ensures in cc
