use Rattle.std.proofs.Common.{◌≡◌, refl, sym, length, arith, rules}
use Rattle.figures.specs.Limits.{right_places}
use Rattle.figures.specs.Names.{no_id}
use Rattle.figures.specs.Rights.{free_right, is_of, unless_of}
use Rattle.std.proofs.Common.{Bool, false, ◌<◌}
use Rattle.book.specs.Types.{Right, Counted}
use Rattle.book.proofs.Leaving.{upto, upto_here, upto_next, upto_all}
use Rattle.book.proofs.Book.drop_rights.Goals.{After-loop-right}
use Rattle.book.proofs.Book.drop_rights.Goals as goal

the_length : (c : After-loop-right) → length c.args.self.now.rights ≡ right_places
the_length c = search rules

pub loop-right-init : goal.loop-right-init
unfolding upto
loop-right-init c = refl

pub loop-right-preserved : goal.loop-right-preserved
unfolding unless_of free_right no_id
loop-right-preserved c =
    let p : (r : Right) → Bool = λ r. is_of c.args.id r in
    let i = c.loop-right.right-index in
    let all = c.args.self.now.rights in
    let d : Right = record { held = false; name = record { id = record { domain = (0, 0, 0); group = 0; number = 0 }; interval = record { low = record { 0 = 0 }; high = record { 0 = 0 } }; spe = 0 }; account = Counted (record { 0 = 0 }) } in
    let n : i < length all = search rules in
    rw (c.free_if_of.ensures, c.loop-right.invariant, upto_here p free_right i all d) (sym (upto_next p free_right i _ all d (omega arith) n))

pub returns : goal.returns
returns c =
    let p : (r : Right) → Bool = λ r. is_of c.args.id r in
    let all = c.args.self.now.rights in
    let n : c.loop-right.right-index ≡ length all = omega (arith, the_length c) in
    record { book = rw (c.loop-right.invariant, n, upto_all p free_right all) }
