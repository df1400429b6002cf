-- Each promise of a public call has one outcome: two that it allows coincide, the contents of lent memory with them. It is stated of the
-- promises themselves. Assumes nothing.
use Prim.Native.Nat.{ℕ}
use mathlib.Core.Path.{◌≡◌, sym, ap, ◌∙◌}
use mathlib.Core.List.{List}
use contract.Lifetimes.{Lfts}
use Rattle.rules.specs.Calls.{After}
use Rattle.book.specs.Types.{Book, Called, Reply}
use Rattle.book.specs.Pages.{pages, bound, ends, after}
use Rattle.book.proofs.Book.empty.Reads as empty
use Rattle.book.proofs.Book.call.Reads as call
use Rattle.book.proofs.Book.serve.Reads as serve
use Rattle.book.proofs.replies.reply_bytes.Reads as reply-bytes

pub pages_once : (b d : Book) → pages b ≡ pages d → b ≡ d
pages_once b d e = ap bound e

pub after_once : (c d : Called) (u v : List ℕ) → after c u ≡ after d v → (c ≡ d) × (u ≡ v)
after_once c d u v e = (ap (λ (a : After). record { book = bound a.book; reply = a.reply }) e, ap (λ (a : After). a.buffer) e)

pub empty_once : (κs : Lfts 0) (a : _) (r r' : _) (s s' : _) → empty.Post κs a r s → empty.Post κs a r' s' → r ≡ r'
empty_once κs a r r' s s' p q = pages_once r r' (p ∙ sym q)

-- book, reply, and the lent key buffer
pub call_once : (κs : Lfts 2) (a : _) (r r' : _) (s s' : _) → call.Post κs a r s → call.Post κs a r' s'
    → (r ≡ r') × (s.1.1.0.now ≡ s'.1.1.0.now)
call_once κs a r r' s s' p q = after_once r r' _ _ (p ∙ sym q)

-- reply, the book where it lies, and the lent key buffer
ends_once : (b d : Book) (r q : Reply) (u v : List ℕ) → ends b r u ≡ ends d q v → (r ≡ q) × (b ≡ d) × (u ≡ v)
ends_once b d r q u v e = (ap (λ (a : After). a.reply) e, pages_once b d (ap (λ (a : After). a.book) e), ap (λ (a : After). a.buffer) e)

pub serve_once : (κs : Lfts 3) (a : _) (r r' : _) (s s' : _) → serve.Post κs a r s → serve.Post κs a r' s'
    → (r ≡ r') × (s.0.now ≡ s'.0.now) × (s.1.1.0.now ≡ s'.1.1.0.now)
serve_once κs a r r' s s' p q = ends_once _ _ r r' _ _ (p ∙ sym q)

pub reply_bytes_once : (κs : Lfts 0) (a : _) (r r' : _) (s s' : _) → reply-bytes.Post κs a r s → reply-bytes.Post κs a r' s' → r ≡ r'
reply_bytes_once κs a r r' s s' p q = p ∙ sym q
