-- Any two outcomes that a public call's own promise allows coincide, lent memory too: each is the one that the definition gives. Assumes nothing.
use Prim.Native.Nat.{ℕ}
use mathlib.Core.Path.{◌≡◌, sym, ap, ◌∙◌}
use mathlib.Core.List.{List}
use contract.Lifetimes.{Lfts}
use Rattle.frames.specs.Types.{Written}
use Rattle.frames.specs.Writing.{Writing, outcome}
use Rattle.frames.proofs.reader.seen.Reads as seen
use Rattle.frames.proofs.reader.key_beside.Reads as key-beside
use Rattle.frames.proofs.reader.read.Reads as read
use Rattle.frames.proofs.writer.write.Reads as write
use Rattle.frames.proofs.round_trips.written_and_read.Reads as written-and-read
use Rattle.frames.proofs.round_trips.read_and_written.Reads as read-and-written
use Rattle.frames.proofs.layouts.load_length.Reads as load-length

-- an outcome of the writer is its answer and the buffer
both : {r r' : Written} {u u' : List ℕ} → outcome r u ≡ outcome r' u' → (r ≡ r') × (u ≡ u')
both e = (ap (λ (x : Writing). x.answer) e, ap (λ (x : Writing). x.buffer) e)

pub seen_once : (κs : Lfts 1) (a : _) (r r' : _) (s s' : _) → seen.Post κs a r s → seen.Post κs a r' s' → r ≡ r'
seen_once κs a r r' s s' p q = p ∙ sym q

pub key_beside_once : (κs : Lfts 1) (a : _) (r r' : _) (s s' : _) → key-beside.Post κs a r s → key-beside.Post κs a r' s' → r ≡ r'
key_beside_once κs a r r' s s' p q = p ∙ sym q

pub read_once : (κs : Lfts 1) (a : _) (r r' : _) (s s' : _) → read.Post κs a r s → read.Post κs a r' s' → r ≡ r'
read_once κs a r r' s s' p q = p ∙ sym q

pub write_once : (κs : Lfts 1) (a : _) (r r' : _) (s s' : _) → write.Post κs a r s → write.Post κs a r' s'
    → (r ≡ r') × (s.1.1.0.now ≡ s'.1.1.0.now)
write_once κs a r r' s s' p q = both (p ∙ sym q)

pub written_and_read_once : (κs : _) (a : _) (r r' : _) (s s' : _) → written-and-read.Post κs a r s → written-and-read.Post κs a r' s' → r ≡ r'
written_and_read_once κs a r r' s s' p q = p ∙ sym q

pub read_and_written_once : (κs : Lfts 2) (a : _) (r r' : _) (s s' : _) → read-and-written.Post κs a r s → read-and-written.Post κs a r' s'
    → (r ≡ r') × (s.1.0.now ≡ s'.1.0.now)
read_and_written_once κs a r r' s s' p q = both (p ∙ sym q)

pub load_length_once : (κs : _) (a : _) (r r' : _) (s s' : _) → load-length.Post κs a r s → load-length.Post κs a r' s' → r ≡ r'
load_length_once κs a r r' s s' p q = p ∙ sym q
