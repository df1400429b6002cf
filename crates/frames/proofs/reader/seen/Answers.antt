-- Each test that passes says how long the frame is, and the kind says that no other test passes.
use Rattle.std.proofs.Common.{◌≡◌, false, refl, sym, ap, ◌∙◌, arith, rules}
use lib.Dec.{eqb}
use Rattle.frames.specs.Numbers.{field}
use Rattle.frames.specs.Layouts.{report_kind, delete_kind}
use Rattle.frames.specs.Reading.{seen}
use Rattle.frames.proofs.Tests.{load_long, message_passes, right_passes, no_load, no_message, no_right, unreadable}
use Rattle.frames.proofs.reader.seen.Goals.{After-byte_at}
use Rattle.frames.proofs.reader.seen.Goals as goal

-- the kind is k, and no other
is_not : (c : After-byte_at) (k j : _) → c.byte_at.result ≡ k → eqb k j ≡ false → eqb (field c.args.bytes.now 0 1) j ≡ false
is_not c k j e n = ap (λ i. eqb i j) (sym c.byte_at.ensures ∙ e) ∙ n

pub load_in-requires : goal.load_in-requires
load_in-requires c = load_long c.args.bytes.now (sym c.is_load.ensures ∙ c.if-is_load.true)

pub message_in-requires : goal.message_in-requires
message_in-requires c = let h = (message_passes c.args.bytes.now (sym c.is_message.ensures ∙ c.if-is_message.true)).long in omega arith

pub name_in-requires : goal.name_in-requires
name_in-requires c = let h = (right_passes report_kind c.args.bytes.now (sym c.is_right.ensures ∙ c.if-is_right.true)).long in omega arith

pub name_in-requires-in-4 : goal.name_in-requires-in-4
name_in-requires-in-4 c = let h = (right_passes delete_kind c.args.bytes.now (sym c.if-is_right-2.ensures)).long in omega arith

pub returns-in-2 : goal.returns-in-2
unfolding seen
returns-in-2 c =
    let n = is_not (goal.at.returns-in-2 c).After-byte_at 2 in
    rw (c.message_in.ensures, no_load _ (n 1 c.in-2.is refl), ← c.if-is_message.ensures)

pub returns-in-3 : goal.returns-in-3
unfolding seen
returns-in-3 c =
    let n = is_not (goal.at.returns-in-3 c).After-byte_at 3 in
    rw (c.name_in.ensures, no_load _ (n 1 c.in-3.is refl), no_message _ (n 2 c.in-3.is refl), ← c.if-is_right.ensures)

pub returns-in-4 : goal.returns-in-4
unfolding seen
returns-in-4 c =
    let n = is_not (goal.at.returns-in-4 c).After-byte_at 4 in
    rw (c.name_in-in-4.ensures, no_load _ (n 1 c.in-4.is refl), no_message _ (n 2 c.in-4.is refl), no_right _ 3 (n 3 c.in-4.is refl), ← c.if-is_right-2.ensures)

pub returns-in_default : goal.returns-in_default
returns-in_default c =
    let n = is_not (goal.at.returns-in_default c).After-byte_at 1 in
    unreadable _ (sym c.if-is_load.ensures) (no_message _ (n 2 c.in-1.is refl)) (no_right _ 3 (n 3 c.in-1.is refl)) (no_right _ 4 (n 4 c.in-1.is refl))

pub returns-in_default-2 : goal.returns-in_default-2
returns-in_default-2 c =
    let n = is_not (goal.at.returns-in_default-2 c).After-byte_at 2 in
    unreadable _ (no_load _ (n 1 c.in-2.is refl)) (sym c.if-is_message.ensures) (no_right _ 3 (n 3 c.in-2.is refl)) (no_right _ 4 (n 4 c.in-2.is refl))

pub returns-in_default-3 : goal.returns-in_default-3
returns-in_default-3 c =
    let n = is_not (goal.at.returns-in_default-3 c).After-byte_at 3 in
    unreadable _ (no_load _ (n 1 c.in-3.is refl)) (no_message _ (n 2 c.in-3.is refl)) (sym c.if-is_right.ensures) (no_right _ 4 (n 4 c.in-3.is refl))

pub returns-in_default-4 : goal.returns-in_default-4
returns-in_default-4 c =
    let n = is_not (goal.at.returns-in_default-4 c).After-byte_at 4 in
    unreadable _ (no_load _ (n 1 c.in-4.is refl)) (no_message _ (n 2 c.in-4.is refl)) (no_right _ 3 (n 3 c.in-4.is refl)) (sym c.if-is_right-2.ensures)

pub returns-in_default-5 : goal.returns-in_default-5
returns-in_default-5 c = unreadable _ (no_load _ (search rules)) (no_message _ (search rules)) (no_right _ 3 (search rules)) (no_right _ 4 (search rules))
