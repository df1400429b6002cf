-- The promise of each public call has one outcome. Each follows from its equation. Assumes nothing.
use mathlib.Core.Path.{◌≡◌, sym, ap, ap₂, ◌∙◌}
use mathlib.Core.List.{List}
use Prim.Native.Nat.{ℕ}
use contract.Lifetimes.{Lfts}
use Rattle.book.proofs.Tight.{pages_once}
use Rattle.lines.specs.Types.{Book, State, Fed}
use Rattle.lines.specs.Feeding.{Between, seen, Left, left}
use Rattle.lines.proofs.hex.decode.Reads as decode
use Rattle.lines.proofs.rows.Row.as_slice.Reads as Row-as-slice
use Rattle.lines.proofs.rows.Row.whole.Reads as Row-whole
use Rattle.lines.proofs.hex.reply_line.Reads as reply-line
use Rattle.lines.proofs.start.Reads as start
use Rattle.lines.proofs.feed.Reads as feed
use Rattle.lines.proofs.finish.Reads as finish

-- ## A state is what is seen of it

seen_once : (s t : State) → seen s ≡ seen t → s ≡ t
seen_once s t e =
    ap₂ (λ (b : Book) (x : Between). record { book = b; line = record { bytes = x.line; count = x.count } })
    (pages_once s.book t.book (ap (λ (x : Between). x.book) e))
    e

left_once : (f g : Fed) (o p : List ℕ) → left f o ≡ left g p → (f ≡ g) × (o ≡ p)
left_once f g o p e = (
  ap₂ (λ (s : State) (x : Left). record { state = s; used = x.used; made = x.made })
      (seen_once f.state g.state (ap (λ (x : Left). x.state) e))
      e,
  ap (λ (x : Left). x.buffer) e,
)

-- ## Any two outcomes that a promise allows are the same

pub decode_once : (κs : Lfts 1) → (a : _) (r r' : _) (s s' : _) → decode.Post κs a r s → decode.Post κs a r' s' → r ≡ r'
decode_once κs a r r' s s' p q = p ∙ sym q

pub Row-as_slice_once : (N z : _) (κs : Lfts 2) (a : _) (r r' : _) (s s' : _) → Row-as-slice.Post N z κs a r s → Row-as-slice.Post N z κs a r' s' → r.now ≡ r'.now
Row-as_slice_once N z κs a r r' s s' p q = p ∙ sym q

pub Row-whole_once : (N z : _) (κs : Lfts 2) (a : _) (r r' : _) (s s' : _) → Row-whole.Post N z κs a r s → Row-whole.Post N z κs a r' s' → r ≡ r'
Row-whole_once N z κs a r r' s s' p q = p ∙ sym q

pub reply_line_once : (κs : Lfts 0) → (a : _) (r r' : _) (s s' : _) → reply-line.Post κs a r s → reply-line.Post κs a r' s' → r ≡ r'
reply_line_once κs a r r' s s' p q = p ∙ sym q

pub start_once : (κs : Lfts 0) → (a : _) (r r' : _) (s s' : _) → start.Post κs a r s → start.Post κs a r' s' → r ≡ r'
start_once κs a r r' s s' p q = seen_once r r' (p ∙ sym q)

-- the next state, the two counts, and every byte of the lent buffer
pub feed_once : (κs : Lfts 2) → (a : _) (r r' : _) (s s' : _) → feed.Post κs a r s → feed.Post κs a r' s'
    → (r ≡ r') × (s.1.1.0.now ≡ s'.1.1.0.now)
feed_once κs a r r' s s' p q = left_once r r' _ _ (p ∙ sym q)

pub finish_once : (κs : Lfts 1) → (a : _) (r r' : _) (s s' : _) → finish.Post κs a r s → finish.Post κs a r' s'
    → (r ≡ r') × (s.1.0.now ≡ s'.1.0.now)
finish_once κs a r r' s s' p q = left_once r r' _ _ (p ∙ sym q)
