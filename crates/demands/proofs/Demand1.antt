-- Demand 1. Assumes nothing.
use mathlib.Core.Path.{◌≡◌, refl, ap, ◌∙◌, sym}
use mathlib.Core.Bool.{Bool, true, false}
use mathlib.Core.List.{[], ◌∷◌}
use lib.Dec.{leb}
use borrow.Author.Tests.{leb-true}
use Rattle.std.specs.Prelude.{if◌then◌else◌}
use Rattle.rules.specs.Pages.{Pages}
use Rattle.rules.specs.Replies.{reply_fields, code}
use Rattle.rules.specs.Rules.{call}
use Rattle.rules.proofs.OneCall.{refusals_alter_nothing as nothing-altered}
use Rattle.lines.proofs.Printing.{reply_long}
use Rattle.demands.specs.Types.{Refusal, BufferLength, Unreadable, Policy, Fields, EmptyInterval, UnknownId, Full, Integrity, NoFit, NoFunds, NotHeld, Reply, Loaded, Deleted, Granted, Reported, OverHeld, OverNew, Refused}
use Rattle.demands.specs.Runs.{called, final}
use Rattle.demands.specs.Demand1.{codes, among, EveryCallAnswers, RefusalsAlterNothing, accepted, RefusalsLeaveNoTrace}

refusal_among : (r : Refusal) → among (code (Refused r)) codes ≡ true
unfolding code reply_fields
refusal_among BufferLength = refl
refusal_among Unreadable = refl
refusal_among Policy = refl
refusal_among Fields = refl
refusal_among EmptyInterval = refl
refusal_among UnknownId = refl
refusal_among Full = refl
refusal_among Integrity = refl
refusal_among NoFit = refl
refusal_among NoFunds = refl
refusal_among NotHeld = refl

reply-among : (r : Reply) → among (code r) codes ≡ true
unfolding code reply_fields
reply-among (Loaded s) = refl
reply-among (Deleted p) = refl
reply-among (Granted s) = refl
reply-among (Reported s) = refl
reply-among (OverHeld s) = refl
reply-among (OverNew p) = refl
reply-among (Refused r) = refusal_among r

pub every_call_answers : EveryCallAnswers
every_call_answers b s u = (reply-among (call b s u).reply, reply_long (call b s u).reply)

pub refusals_alter_nothing : RefusalsAlterNothing
refusals_alter_nothing b s u h = let w = nothing-altered b s u h in (w.book, w.buffer)

pub refusals_leave_no_trace : RefusalsLeaveNoTrace
unfolding accepted final
refusals_leave_no_trace b [] = refl
refusals_leave_no_trace b (c ∷ cs) = go (leb 0x10 (code (called b c).reply)) refl (refusals_leave_no_trace (called b c).book cs)
  where
    go : (t : Bool) → leb 0x10 (code (called b c).reply) ≡ t → final (called b c).book (accepted (called b c).book cs) ≡ final (called b c).book cs
        → final b (if t then accepted (called b c).book cs else c ∷ accepted (called b c).book cs) ≡ final (called b c).book cs
    go true e h =
        let same : (called b c).book ≡ b = (nothing-altered b c.frame c.buffer (leb-true _ _ e)).book in
        ap (λ (x : Pages). final x (accepted (called b c).book cs)) (sym same) ∙ h
    go false e h = h
