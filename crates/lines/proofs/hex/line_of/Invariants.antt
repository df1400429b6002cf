-- The digits of the bytes passed have come, and after them stand line feeds.
use Rattle.std.proofs.Common.{◌≡◌, take, replicate}
use Rattle.lines.specs.Rows.{fronted}
use Rattle.lines.specs.Hex.{hexadecimal, reply_line, line_feed}
use Rattle.lines.proofs.hex.line_of.Given as goal

abbrev pub invariant-loop-i : goal.invariant-loop-i
invariant-loop-i l = l.line ≡ fronted (replicate reply_line line_feed) (hexadecimal (take l.i l.bytes))
