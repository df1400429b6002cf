-- What is stored in the two places is what the rules put there.
use Rattle.places.specs.Words.{put}
use Rattle.figures.specs.Keys.{granted_key}
use Rattle.figures.specs.Rights.{charged_right}
use Rattle.rules.proofs.InPlace.{grant_in}
use Rattle.book.specs.Pages.{pages}
use Rattle.book.proofs.Book.pay.Goals as goal

pub returns : goal.returns
unfolding put granted_key charged_right
returns c =
    let b = c.args.self.now in
    let p = c.args.places in
    rw (c.shown_of-shown.ensures, c.charged-charged.ensures, c.granted-next.ensures, c.spend-purse.ensures)
    (grant_in (pages b) p.key p.right c.requires.key c.requires.right c.args.ts _ _)
