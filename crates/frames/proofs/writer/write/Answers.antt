-- A buffer that is too short is left as it is; one with room holds the frame, and then its own bytes.
use Rattle.std.proofs.Common.{◌≡◌, length, arith, rules}
use Rattle.figures.specs.Limits.{key_bytes}
use Rattle.frames.proofs.Answers.{too_short, long_enough}
use Rattle.frames.proofs.writer.write.Goals as goal

pub returns-then-buffer-count : goal.returns-then-buffer-count
returns-then-buffer-count c = let a = c.args in too_short a.frame a.key a.buffer.now (omega arith)

pub returns : goal.returns
returns c =
    let a = c.args in
    let k : length a.key ≡ key_bytes = search rules in
    rw (c.put_frame.ensures, c.frame_length-count.ensures) (long_enough a.frame a.key a.buffer.now k (omega arith))
