-- Each export's promise leaves no freedom: any two outcomes that it allows coincide. Assumes nothing.
use mathlib.Core.Path.{◌≡◌, ◌∙◌, refl, sym}
use seplogic.Ra.Ura.{Ura}
use types.Logic.{Logic}
use prog.Memory.{Memory}
use prog.Routine.{Routine}
use base.Logic.{SProp}
use contract.Lifetimes.{Lfts}
use contract.Monad.{Fun}
use Rattle.book.specs.declared.Book.{Book}
use Rattle.card.specs.contracts.keybook_empty as empty
use Rattle.card.specs.contracts.keybook_call as call
use Rattle.card.proofs.keybook_size.Reads as size
use Rattle.card.proofs.keybook_align.Reads as align
use Rattle.card.proofs.keybook_call.Reads as call-reads

pub keybook_size_once : (κs : Lfts 0) (a : _) (r r' : _) (s s' : _) → size.Post κs a r s → size.Post κs a r' s' → r ≡ r'
keybook_size_once κs a r r' s s' p q = p ∙ sym q

pub keybook_align_once : (κs : Lfts 0) (a : _) (r r' : _) (s s' : _) → align.Post κs a r s → align.Post κs a r' s' → r ≡ r'
keybook_align_once κs a r r' s s' p q = p ∙ sym q

-- the lent key buffer and the lent reply
pub keybook_call_once : (held : Book) (κs : Lfts 3) (a : _) (r r' : _) (s s' : _) → call-reads.Post-at held κs a r s → call-reads.Post-at held κs a r' s'
    → (s.1.1.0.now ≡ s'.1.1.0.now) × (s.1.1.1.0.now ≡ s'.1.1.1.0.now)
keybook_call_once held κs a r r' s s' p q = (p.0 ∙ sym q.0, p.1 ∙ sym q.1)

-- What lies at the book's pointer afterwards: the promise names it by the arguments alone, and says the same at any two outcomes.
module _ {M : Type 1} {𝓤 : Ura M} (𝓛 : Logic 𝓤) (at_mem : Memory → SProp 𝓤) (run : Routine → Fun 𝓤) where
  pub keybook_empty_once : (κs : Lfts 0) (book : _) (e e' : _) (r r' : _)
      → empty.ensures-1 𝓛 κs at_mem run book e r ≡ empty.ensures-1 𝓛 κs at_mem run book e' r'
  keybook_empty_once κs book e e' r r' = refl

  pub keybook_call-book_once : (κs : Lfts 3) (book frame key reply : _) (held : Book) (b b' f f' k k' y y' : _) (r r' : _)
      → call.ensures-book 𝓛 κs at_mem run book frame key reply (record { entry = book; exit = b }) (record { entry = frame; exit = f }) (record { entry = key; exit = k }) (record { entry = reply; exit = y }) held r
      ≡ call.ensures-book 𝓛 κs at_mem run book frame key reply (record { entry = book; exit = b' }) (record { entry = frame; exit = f' }) (record { entry = key; exit = k' }) (record { entry = reply; exit = y' }) held r'
  keybook_call-book_once κs book frame key reply held b b' f f' k k' y y' r r' = refl
