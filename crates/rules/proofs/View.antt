-- What a call can do: six cases, one for each way that a call ends. Each theorem about calls goes by them. Assumes nothing.
use Prim.Native.Nat.{ℕ}
use mathlib.Core.Path.{◌≡◌}
use mathlib.Core.Bool.{true, false}
use mathlib.Core.List.{List}
use Rattle.places.proofs.Tests.{if_elim}
use Rattle.figures.specs.Policies.{is_deletion}
use Rattle.frames.specs.Reading.{reading}
use Rattle.rules.specs.Types.{RightName, Load, Message, Frame, LoadFrame, MessageFrame, ReportFrame, DeleteFrame, Seen, Ok, Err, Refusal, Reply, Loaded, Deleted, Reported, Refused}
use Rattle.rules.specs.Pages.{Pages, key_at, right_at, key_room, right_room, user_purse, as_held}
use Rattle.rules.specs.Calls.{After, unchanged}
use Rattle.rules.specs.Loads.{loaded, load_refusals, over_reply, store}
use Rattle.rules.specs.Deletions.{report_refusals, report, dropped, delete_refusals, delete, erased, erase_refusals, erase}
use Rattle.rules.specs.Messages.{payer, message_refusals, grant, message}
use Rattle.rules.specs.Rules.{load, act, buffer_refusals, step, taken, call}
use Rattle.rules.proofs.Refusals.{Passed, unless_elim}

-- the refusals of a call, by what was read: a code alone, or 17, which shows more
pub data Refuses (b : Pages) : Seen → Reply → Type 0 where
  plain : {x : Seen} (r : Refusal) → Refuses b x (Refused r)
  over : {l : Load} → Refuses b (Ok (LoadFrame l)) (over_reply b l.name)

-- what a call leaves, of the book b and the buffer u, by what was read and the key bytes beside it
pub data Done (b : Pages) (u : List ℕ) : Seen → List ℕ → After → Type 0 where
  refused : {x : Seen} {key : List ℕ} {r : Reply} → Refuses b x r → Done b u x key (unchanged b u r)
  was_loaded : {l : Load} {key : List ℕ} → is_deletion l.name.spe ≡ false → Passed (load_refusals b l)
      → Done b u (Ok (LoadFrame l)) key
      (record { book = loaded b l key; reply = Loaded (as_held (loaded b l key) (key_room b l.name.id) (right_room b l.name)); buffer = u })
  was_erased : {l : Load} {key : List ℕ} → is_deletion l.name.spe ≡ true → Passed (erase_refusals b l)
      → Done b u (Ok (LoadFrame l)) key (record { book = erased b l.name.id; reply = Deleted (user_purse b); buffer = u })
  was_granted : {m : Message} {key : List ℕ} → Passed (message_refusals b m)
      → Done b u (Ok (MessageFrame m)) key (grant b (key_at b m.id) (payer b m) m.ts)
  was_reported : {n : RightName} {key : List ℕ} → Passed (report_refusals b n)
      → Done b u (Ok (ReportFrame n)) key (record { book = b; reply = Reported (as_held b (key_at b n.id) (right_at b n)); buffer = u })
  was_dropped : {n : RightName} {key : List ℕ} → Passed (delete_refusals b n)
      → Done b u (Ok (DeleteFrame n)) key (record { book = dropped b n; reply = Deleted (user_purse b); buffer = u })

module _ (b : Pages) (u : List ℕ) (key : List ℕ) where
  load_done : (l : Load) → Done b u (Ok (LoadFrame l)) key (load b u l key)
  unfolding load store erase load_refusals erase_refusals
  load_done l =
      if_elim (Done b u (Ok (LoadFrame l)) key) (is_deletion l.name.spe) _ _
      (λ o. unless_elim (Refuses b _) (Done b u (Ok (LoadFrame l)) key) b u (erase_refusals b l) _ (plain _, (plain _, tt)) (λ r. refused) (was_erased o))
      (λ o. unless_elim (Refuses b _) (Done b u (Ok (LoadFrame l)) key) b u (load_refusals b l) _
      (plain _, (plain _, (plain _, (plain _, (plain _, (plain _, (over, tt))))))) (λ r. refused) (was_loaded o))

  act_done : (f : Frame) → Done b u (Ok f) key (act b u f key)
  unfolding act message report delete message_refusals report_refusals delete_refusals
  act_done (LoadFrame l) = load_done l
  act_done (MessageFrame m) =
      unless_elim (Refuses b _) (Done b u (Ok (MessageFrame m)) key) b u (message_refusals b m) _ (plain _, (plain _, (plain _, (plain _, tt)))) (λ r. refused) was_granted
  act_done (ReportFrame n) = unless_elim (Refuses b _) (Done b u (Ok (ReportFrame n)) key) b u (report_refusals b n) _ (plain _, (plain _, tt)) (λ r. refused) was_reported
  act_done (DeleteFrame n) = unless_elim (Refuses b _) (Done b u (Ok (DeleteFrame n)) key) b u (delete_refusals b n) _ (plain _, (plain _, tt)) (λ r. refused) was_dropped

  taken_done : (x : Seen) → Done b u x key (taken b u x key)
  unfolding taken
  taken_done (Ok f) = act_done f
  taken_done (Err r) = refused (plain r)

-- on frames
pub step_done : (b : Pages) (f : Frame) (key u : List ℕ) → Done b u (Ok f) key (step b f key u)
unfolding step buffer_refusals
step_done b f key u = unless_elim (Refuses b _) (Done b u (Ok f) key) b u (buffer_refusals u) _ (plain _, tt) (λ r. refused) (λ h. act_done b u key f)

-- on byte strings
pub call_done : (b : Pages) (s u : List ℕ) → Done b u (reading s).frame (reading s).key (call b s u)
unfolding call buffer_refusals
call_done b s u =
    unless_elim (Refuses b _) (Done b u (reading s).frame (reading s).key) b u (buffer_refusals u) _ (plain _, tt) (λ r. refused) (λ h. taken_done b u _ _)

-- a byte string that reads as a frame is a call on that frame
pub call_step : (b : Pages) (s u : List ℕ) (f : Frame) → (reading s).frame ≡ Ok f → call b s u ≡ step b f (reading s).key u
unfolding call step taken
call_step b s u f e = rw e
