use Rattle.std.proofs.Common.{◌≡◌, ◌+◌, ◌-◌, ◌≤◌, length, append_assoc, arith, rules}
use lib.Seq.{sets-eq, drop-drop}
use Rattle.frames.proofs.writer.put.Goals as goal

pub returns : goal.returns
returns g c =
    let a = c.args in
    let n : length a.spelt ≡ g.row.N = search rules in
    let m : a.at + g.row.N - a.at ≡ g.row.N = omega arith in
    let h : a.at + length a.spelt ≤ length a.buffer.now = omega arith in
    rw (c.copy_from_slice.ensures.after, m, sets-eq a.spelt a.buffer.now a.at h, n, drop-drop g.row.N a.at a.buffer.now, append_assoc)
