use Rattle.std.proofs.Common.{arith, rules, replicate}
use Rattle.lines.specs.Hex.{line_feed, reply_line}
use Rattle.lines.proofs.Spelling.{hex_more}
use Rattle.lines.proofs.hex.line_of.Goals as goal

pub loop-i-preserved : goal.loop-i-preserved
loop-i-preserved c =
    rw (c.loop-i.invariant, c.glyph.ensures, c.glyph-in-loop-i.ensures)
    (hex_more (replicate reply_line line_feed) c.args.bytes.now c.loop-i.i (search rules) (omega arith))
