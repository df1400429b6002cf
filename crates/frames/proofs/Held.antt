-- What the code can hold fits: a frame for which some machine values stand has every number within its width. Assumes nothing.
use mathlib.Core.List.{List}
use native.Mathlib.Omega.{arith}
use mir.Val.{Val}
use denote.Laws.{Is}
use Rattle.frames.specs.Types.{Frame, LoadFrame, MessageFrame, ReportFrame, DeleteFrame}
use Rattle.frames.specs.RoundTrips.{Fits}
use Rattle.frames.specs.contracts.Frame.{the_row}

pub held_fits : (f : Frame) (vs : List Val) → Is the_row f vs → Fits f
held_fits (LoadFrame l) vs p = grind arith
held_fits (MessageFrame m) vs p = grind arith
held_fits (ReportFrame n) vs p = omega arith
held_fits (DeleteFrame n) vs p = omega arith
