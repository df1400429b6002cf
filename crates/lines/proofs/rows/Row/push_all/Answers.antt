use Rattle.std.proofs.Common.{arith}
use Rattle.lines.proofs.Stores.{pushed_into}
use Rattle.lines.proofs.rows.Row.push_all.Goals as goal

pub returns : goal.returns
returns g c = pushed_into _ c.args.bytes.now _ _ _ _ _ (omega arith) (omega arith) (omega arith) (omega arith) c.copy_from_slice.ensures.after
