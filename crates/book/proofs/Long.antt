-- A book by value has its places: what owning one tells (`c.good.0` where the book is the first parameter). Assumes nothing.
use mathlib.Core.Path.{◌≡◌}
use lib.ListN.{length}
use denote.Laws.{Is}
use denote.Struct.Declared.{row}
use denote.Struct.Laws.{vals}
use Rattle.figures.specs.Limits.{key_places, right_places}
use Rattle.book.specs.Types.{Book}
use Rattle.book.specs.contracts.Book.{the_type}
use Rattle.book.proofs.Book.TheLaws.{the_laws}

module _ (b : Book) (h : Is (row the_type) b (vals the_type the_laws b)) where
  pub keys_long : length b.keys ≡ key_places
  keys_long = h.1.1.0.1.0.1

  pub rights_long : length b.rights ≡ right_places
  rights_long = h.1.1.1.0.1.0.1
