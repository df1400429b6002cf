-- What a short term message does: 01, What a short term message does, and Replies (18, 15, 19, 1A).
use Rattle.std.specs.Prelude.{ℕ, Bool, not, ◌&&◌, List, []}
use Rattle.places.specs.Words.{first, put, missing}
use Rattle.figures.specs.Accounts.{can_pay, spent}
use Rattle.figures.specs.Rights.{fits, charged_right}
use Rattle.figures.specs.Keys.{granted_key}
use Rattle.rules.specs.Types.{Option, Timestamp, KeyId, Right, Message, Granted, Refused, Integrity, UnknownId, NoFit, NoFunds}
use Rattle.rules.specs.Pages.{Pages, key_at, key_in, right_in, purse_of, as_held}
use Rattle.rules.specs.Calls.{After, Check, ◌⇒◌∣◌, unless}

-- 01, What a short term message does: the key's replay counter
unfoldable pub replay_of : Pages → KeyId → Timestamp
replay_of b i = (key_in b (key_at b i)).replay

-- a right fits the message, and is live or playback as the message is
unfoldable pub fitting : Pages → Message → Right → Bool
fitting b m r = fits m (replay_of b m.id) r

-- it fits and can pay
unfoldable pub paying : Pages → Message → Right → Bool
paying b m r = fitting b m r && can_pay (purse_of b r.name) r.account

-- the fitting right in the lowest place that can pay is charged
unfoldable pub payer : Pages → Message → Option ℕ
payer b m = first (λ r. paying b m r) b.rights

-- 01, Replies: short term message: 18, 15, 19, 1A
unfoldable pub message_refusals : Pages → Message → List Check
message_refusals b m =
    not m.good ⇒ Refused Integrity
    ∣ missing (key_at b m.id) ⇒ Refused UnknownId
    ∣ missing (first (λ r. fitting b m r) b.rights) ⇒ Refused NoFit
    ∣ missing (first (λ r. paying b m r) b.rights) ⇒ Refused NoFunds
    ∣ []

-- the key in place k is handed out, and the right in place r is charged; nothing else alters
unfoldable pub granted : Pages → Option ℕ → Option ℕ → Timestamp → Pages
granted b k r ts =
    record {
      keys = put k (granted_key ts (key_in b k)) b.keys;
      rights = put r (charged_right (right_in b r)) b.rights;
      purse = spent (right_in b r).account (purse_of b (right_in b r).name);
    }

-- the key's sixteen bytes go to the lent key buffer
unfoldable pub grant : Pages → Option ℕ → Option ℕ → Timestamp → After
grant b k r ts =
    let after = granted b k r ts in
    record { book = after; reply = Granted (as_held after k r); buffer = (key_in b k).bytes }

-- 01, Replies, 01: granted, as held
unfoldable pub message : Pages → List ℕ → Message → After
message b u m = unless b u (message_refusals b m) (grant b (key_at b m.id) (payer b m) m.ts)
