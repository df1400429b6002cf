-- A place that was found is a place of the list, and the ID has no right any more.
use Rattle.std.proofs.Common.{refl, sym, arith}
use Rattle.places.specs.Words.{put}
use Rattle.figures.specs.Names.{no_id}
use Rattle.figures.specs.Keys.{free_key}
use Rattle.figures.specs.Rights.{free_right, is_of}
use Rattle.figures.proofs.Naming.{is_of-free}
use Rattle.rules.specs.Calls.{unless}
use Rattle.rules.specs.Pages.{key_at, user_purse}
use Rattle.rules.specs.Deletions.{erase, erase_refusals, erased, left}
use Rattle.rules.proofs.InPlace.{key_inside}
use Rattle.book.specs.Pages.{pages}
use Rattle.book.proofs.Leaving.{none_left}
use Rattle.book.proofs.Book.serve_erase.Goals as goal

pub offset_bounds-self-place : goal.offset_bounds-self-place
unfolding key_at
offset_bounds-self-place c = omega (arith, key_inside (pages c.args.self.now) c.args.load.name.id _ (sym c.in-Some.ensures))

pub bounds-self-place : goal.bounds-self-place
unfolding key_at
bounds-self-place c = omega (arith, key_inside (pages c.args.self.now) c.args.load.name.id _ (sym c.in-Some.ensures))

pub returns : goal.returns
unfolding erase erase_refusals erased left key_at user_purse unless put free_key no_id
returns c =
    let i = c.args.load.name.id in
    let gone = none_left (λ r. is_of i r) free_right (is_of-free i) c.args.self.now.rights in
    λ u. rw (c.drop_rights.ensures.book, ← c.in-Passed.ensures, ← c.in-Some.ensures, gone) refl
