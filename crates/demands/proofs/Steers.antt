-- Demand 3, first half: two runs that differ only in key bytes give the same replies, and the same book but for stored keys. Assumes nothing.
use Prim.Native.Nat.{ℕ}
use mathlib.Core.Path.{◌≡◌, refl, ap, ap₂, ◌∙◌, sym}
use mathlib.Core.List.{List, ◌∷◌}
use lib.ListN.{length}
use Rattle.figures.specs.Keys.{zeros}
use Rattle.frames.specs.Reading.{reading}
use Rattle.frames.proofs.Theorems.{key_apart}
use Rattle.rules.specs.Pages.{Pages, empty_book}
use Rattle.rules.specs.Calls.{unless}
use Rattle.rules.specs.Rules.{buffer_refusals, taken}
use Rattle.demands.specs.Types.{Reply, Seen}
use Rattle.demands.specs.Runs.{Call, called, final, replies}
use Rattle.demands.specs.Demand3.{AlikeFrames, same, but_key, AlikeRuns, none, more, blind, KeysSteerNothing}
use Rattle.demands.proofs.Blind.{Shows, shows, call-shows}

alike_read : {s t : List ℕ} → AlikeFrames s t → (reading s).frame ≡ (reading t).frame
alike_read same = refl
alike_read (but_key h k e) = key_apart _ _ (h ∙ sym k) e

-- one call
alike_call : (a b : Pages) (c d : Call) → blind a ≡ blind b → AlikeFrames c.frame d.frame → length c.buffer ≡ length d.buffer
    → shows (called a c) ≡ shows (called b d)
alike_call a b c d h f l =
    call-shows a c.buffer d.buffer c.frame l
    ∙ ap₂ (λ (x : Pages) (y : Seen). shows (unless x d.buffer (buffer_refusals d.buffer) (taken x d.buffer y zeros))) h (alike_read f)
    ∙ sym (call-shows b d.buffer d.buffer d.frame refl)

alike_run : (a b : Pages) {cs ds : List Call} → blind a ≡ blind b → AlikeRuns cs ds → (replies a cs ≡ replies b ds) × (blind (final a cs) ≡ blind (final b ds))
unfolding replies final shows
alike_run a b h none = (refl, h)
alike_run a b h (more {c} {d} f l r) =
    let s = alike_call a b c d h f l in
    let rest = alike_run (called a c).book (called b d).book (ap (λ (x : Shows). x.book) s) r in
    (ap₂ (λ (x : Reply) (xs : List Reply). x ∷ xs) (ap (λ (x : Shows). x.reply) s) rest.0, rest.1)

pub keys_steer_nothing : KeysSteerNothing
keys_steer_nothing cs ds r = alike_run empty_book empty_book refl r
