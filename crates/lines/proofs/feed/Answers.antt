use Rattle.std.proofs.Common.{◌≡◌, ◌+◌, ◌-◌, length, take, drop, refl, ap, ◌∙◌, arith}
use Rattle.std.proofs.lemmas.Slice.{put_mid-paste}
use Rattle.book.specs.Pages.{pages}
use Rattle.lines.specs.Hex.{printed, reply_line}
use Rattle.lines.specs.Feeding.{answered, seen, feeding}
use Rattle.lines.proofs.Printing.{printed_long}
use Rattle.lines.proofs.Finding.{found, none_left}
use Rattle.lines.proofs.Going.{Going, held, held_all_longer, going_chars, going_line, going_end, going_full}
use Rattle.lines.proofs.feed.Goals as goal
use Rattle.lines.proofs.feed.Goals.{After-push_all}

-- the characters before a line feed are taken
at_line_feed : (c : After-push_all) → Going c.args.input.now c.args.out.now (seen c.args.state) c.loop-ahead.out
    (seen (record { book = c.loop-ahead.state.book; line = c.push_all.new.self })) (c.loop-ahead.used + c.in-Some.ahead) c.loop-ahead.made
at_line_feed c =
    let p = c.loop-ahead in
    let l = c.args.input.now in
    let n = c.in-Some.ahead in
    let w = found l p.used n c.in-Some.ensures in
    let b = pages p.state.book in
    let m : p.used + n - p.used ≡ n = omega arith in
    let e = rw m at c.push_all.ensures in
    rw (ap (held b) e ∙ held_all_longer b p.state.line (take n (drop p.used l)))
    (going_chars n p.invariant (omega (arith, w.within)) w.plain)

pub returns-then-out-made-lt-REPLY_LINE : goal.returns-then-out-made-lt-REPLY_LINE
unfolding feeding
returns-then-out-made-lt-REPLY_LINE c =
    let w = found c.args.input.now c.loop-ahead.used c.in-Some.ahead c.in-Some.ensures in
    going_full (at_line_feed (goal.at.returns-then-out-made-lt-REPLY_LINE c).After-push_all) w.within w.ends (omega arith)

pub loop-ahead-preserved : goal.loop-ahead-preserved
loop-ahead-preserved c =
    let p = c.loop-ahead in
    let w = found c.args.input.now p.used c.in-Some.ahead c.in-Some.ensures in
    let s = seen (record { book = p.state.book; line = c.push_all.new.self }) in
    let t = printed (answered s).reply in
    let n : length t ≡ reply_line = printed_long (answered s).reply in
    let e = c.copy_from_slice.ensures.after ∙ c.reply_line-line.ensures ∙ ap printed c.end_line.ensures.reply in
    rw c.end_line.ensures.state
    (going_line (at_line_feed (goal.at.loop-ahead-preserved c).After-push_all) w.within w.ends (omega arith) _
    (put_mid-paste p.made _ p.out c.copy_from_slice.new.self t (length t) e (omega arith) refl))

pub returns : goal.returns
unfolding feeding
returns c =
    let p = c.loop-ahead in
    let l = c.args.input.now in
    let n = length l - p.used in
    let b = pages p.state.book in
    let m : p.used + n ≡ length l = omega arith in
    let g = rw m at (going_chars n p.invariant (omega arith) (none_left l p.used c.in_default.ensures)) in
    rw (ap (held b) c.push_all-2.ensures ∙ held_all_longer b p.state.line (take n (drop p.used l))) (going_end g refl)
