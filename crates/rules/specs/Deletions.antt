-- Reports, and deletion of one right or of a key with all its rights: 01, Rights, What a load does, and Replies (12, 13, 1B).
use Rattle.std.specs.Prelude.{ℕ, Bool, not, List, [], if◌then◌else◌}
use Rattle.places.specs.Words.{first, put, put_all, missing}
use Rattle.figures.specs.Policies.{holds_right}
use Rattle.figures.specs.Rights.{free_right, is_of}
use Rattle.figures.specs.Keys.{free_key}
use Rattle.figures.specs.Loads.{laden}
use Rattle.rules.specs.Types.{KeyId, RightName, Right, Load, Reported, Deleted, Refused, Policy, Fields, NotHeld}
use Rattle.rules.specs.Pages.{Pages, key_at, right_at, user_purse, as_held}
use Rattle.rules.specs.Calls.{After, Check, ◌⇒◌∣◌, unless}

-- ## Kind 03, report

-- 01, Replies, 12: in kinds 03 and 04 also 0A, which no right has
unfoldable pub reportable : ℕ → Bool
reportable s = holds_right s

-- 01, Replies: kinds 03 and 04: 12, 1B
unfoldable pub report_refusals : Pages → RightName → List Check
report_refusals b n =
    not (reportable n.spe) ⇒ Refused Policy
    ∣ missing (right_at b n) ⇒ Refused NotHeld
    ∣ []

-- 01, Replies, 02: report of a held right, as held
unfoldable pub report : Pages → List ℕ → RightName → After
report b u n =
    unless b u (report_refusals b n)
    (record { book = b; reply = Reported (as_held b (key_at b n.id) (right_at b n)); buffer = u })

-- ## What stays when rights go

-- 01, Rights: these rights stay, some of the ID's having gone; when its last right goes, the key and its replay counter go too
unfoldable pub left : Pages → KeyId → List Right → Pages
left b i rest =
    record {
      keys = if missing (first (λ r. is_of i r) rest) then put (key_at b i) free_key b.keys else b.keys;
      rights = rest;
      purse = b.purse;
    }

-- ## Kind 04, delete one right

-- 01, Frames, kind 04: without that one right
unfoldable pub dropped : Pages → RightName → Pages
dropped b n = left b n.id (put (right_at b n) free_right b.rights)

-- 01, Replies: kinds 03 and 04: as for a report
unfoldable pub delete_refusals : Pages → RightName → List Check
delete_refusals b n = report_refusals b n

-- 01, Replies, 00: deletion done: FF, 0, purse, 0
unfoldable pub delete : Pages → List ℕ → RightName → After
delete b u n =
    unless b u (delete_refusals b n)
    (record { book = dropped b n; reply = Deleted (user_purse b); buffer = u })

-- ## SPE 0A

-- 01, What a load does: 0A removes the key, its replay counter and all its rights, for every interval
unfoldable pub erased : Pages → KeyId → Pages
erased b i = left b i (put_all (λ r. is_of i r) free_right b.rights)

-- 01, Replies: with SPE 0A: 12, 13, 1B; 12 is never given, since 0A is an SPE of the table
unfoldable pub erase_refusals : Pages → Load → List Check
erase_refusals b l =
    laden l ⇒ Refused Fields
    ∣ missing (key_at b l.name.id) ⇒ Refused NotHeld
    ∣ []

-- 01, Replies, 00: deletion done: FF, 0, purse, 0
unfoldable pub erase : Pages → List ℕ → Load → After
erase b u l =
    unless b u (erase_refusals b l)
    (record { book = erased b l.name.id; reply = Deleted (user_purse b); buffer = u })
