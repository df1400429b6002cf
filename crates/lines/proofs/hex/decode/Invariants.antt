-- While none is over 15, the characters passed are digits, and their bytes have come.
use Rattle.std.proofs.Common.{◌≡◌, ◌*◌, ◌<◌, ◌&&◌, take, drop}
use lib.Dec.{ltb}
use Rattle.lines.specs.Rows.{fronted}
use Rattle.lines.specs.Hex.{all_digits, pairs, blank}
use Rattle.lines.proofs.hex.decode.Given as goal

abbrev pub invariant-loop-i : goal.invariant-loop-i
invariant-loop-i l = record {
  digits : (ltb l.worst 16 && all_digits (drop (2 * l.i) l.line)) ≡ all_digits l.line;
  bytes : l.worst < 16 → l.bytes ≡ fronted blank (take l.i (pairs l.line));
}
