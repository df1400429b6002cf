-- What `feed` takes of what is left of a chunk, from its promise. Assumes nothing.
use Rattle.std.proofs.Common.{◌≡◌, ℕ, List, length}
use Rattle.std.proofs.lemmas.List.{take_rest}
use Rattle.lines.specs.declared.Fed.{Fed}
use Rattle.lines.specs.Feeding.{Between, left, feeding}
use Rattle.lines.proofs.Within.{Taken, feed_takes}

pub taken : (s : Between) (l o o' : List ℕ) (f : Fed) → left f o' ≡ feeding s l o → Taken (length l) 0 (length o) f.used
taken s l o o' f e = feed_takes s l o o' 0 f (rw (take_rest l 0) e)
