-- Every call keeps the laws of one call. Assumes nothing.
use Prim.Native.Nat.{ℕ, ◌+◌, ◌-◌, ◌≤◌}
use native.Mathlib.Omega.{arith}
use mathlib.Core.Path.{◌≡◌, refl, ap, ◌∙◌, sym, subst}
use mathlib.Core.Bool.{Bool, true, false, not, ◌&&◌, beq}
use mathlib.Core.List.{List}
use lib.ListN.{length}
use lib.Dec.{leb, ltb}
use borrow.Author.Tests.{ltb-true, ltb-false, leb-true, le-leb, eq-eqb, ne_eqb}
use Rattle.std.specs.Prelude.{if◌then◌else◌}
use Rattle.places.specs.Words.{first, at, put, or_else, missing}
use Rattle.places.proofs.Lists.{clash, present, absent, first-none, has, has_not, put_all_elim, get_or-blank}
use Rattle.places.proofs.Walks.{put_same}
use Rattle.places.proofs.Tests.{if_elim, and_left, and_right}
use Rattle.figures.specs.Names.{covers, live}
use Rattle.figures.specs.Policies.{is_live, is_deletion}
use Rattle.figures.specs.Accounts.{can_pay, charged, spent, counter}
use Rattle.figures.specs.Keys.{free_key, is_key, granted_key, loaded_key}
use Rattle.figures.specs.Loads.{raised, credit_in, account_by, purse_by, loaded_right}
use Rattle.figures.specs.Rights.{free_right, is_right, is_of, fits, charged_right}
use Rattle.figures.proofs.Naming.{same_id_eq, is_key-free, is_right-free, is_of-free, is_right-is_of}
use Rattle.figures.specs.Limits.{key_bytes}
use Rattle.figures.specs.Replies.{refusal_code}
use Rattle.frames.specs.Reading.{reading}
use Rattle.rules.specs.Types.{Refusal, BufferLength, Unreadable, Policy, Fields, EmptyInterval, UnknownId, Full, Integrity, NoFit, NoFunds, NotHeld, Refused, OverHeld, OverNew, Reply, RightName, Option, Some, None, Credit, ToCounter, ToPurse, Load, Timestamp, Tokens, KeyId, Account, Counted, Purse, Right, Key, Message, LoadFrame, MessageFrame, ReportFrame, DeleteFrame, Loaded, Deleted, Reported, Seen, Ok}
use Rattle.rules.specs.Pages.{Pages, Sizes, blank, key_at, right_at, key_in, right_in, free_key_at, free_right_at, key_room, right_room, purse_of, user_purse, as_held}
use Rattle.rules.specs.Calls.{After, unless}
use Rattle.rules.specs.Loads.{over_reply, account_before, load_refusals, key_after, loaded}
use Rattle.rules.specs.Deletions.{left, dropped, erased, erase_refusals}
use Rattle.rules.specs.Messages.{replay_of, fitting, paying, payer, message_refusals, granted, grant, message}
use Rattle.rules.specs.Replies.{reply_fields, code}
use Rattle.rules.specs.Rules.{act, buffer_refusals, step, taken, call}
use Rattle.rules.specs.Sound.{Sound}
use Rattle.rules.specs.OneCall.{Gone, Takes, Fits, Replays, as_live, as_playback, Pays, from_counter, from_purse, NothingElse, Grant, LoadsKey, new, replaced, kept, Settles, counter_new, counter-set, counter-raised, purse-set, purse-raised, Loading, Erasure, Deletion, Report, Outcome, EveryCall, RefusalsAlterNothing, OnlyGrantsWrite, GrantsCharge, GrantsWhenPaid, Unchanged, Over, right-held, right_new, WrongBuffer, ReaderRefuses, EmptyBook}
use Rattle.rules.proofs.Refusals.{Passed, passed}
use Rattle.rules.proofs.View.{plain, over, Done, refused, was_loaded, was_erased, was_granted, was_reported, was_dropped, call_done, call_step}
use Rattle.rules.proofs.ByPlace.{only_put, gone_put_all, gone_put, takes, takes_in, key_found, right_found, free_key_found, free_right_found}
use Rattle.rules.proofs.Unrefused.{Sort, load_sort, load_costless, load_proper, load_keyed, key_has_room, right_has_room, erase_no_flag, erase_no_figure, erase-held, message_good, message_keyed, report-held, delete-held}
use Rattle.rules.proofs.Payer.{payer_found, payer-fits, payer-can_pay, payer_lowest, payer_in}
use Rattle.rules.proofs.Kept.{sixteen}

-- ## A grant

replays : (spe : ℕ) (ts before : Timestamp) → beq (is_live spe) (live before ts) ≡ true → Replays spe ts before (if live before ts then ts else before)
unfolding live
replays spe ts before = go (is_live spe) refl (ltb before.0 ts.0) refl
  where
    go : (s : Bool) → is_live spe ≡ s → (t : Bool) → ltb before.0 ts.0 ≡ t → beq s t ≡ true → Replays spe ts before (if t then ts else before)
    go true p true q h = as_live p (ltb-true _ _ q)
    go true p false q h = clash h refl
    go false p true q h = clash h refl
    go false p false q h = as_playback p (ltb-false _ _ q)

pays : (a : Account) (purse : Tokens) → can_pay purse a ≡ true → Pays a purse (charged a) (spent a purse)
pays (Counted left) purse h =
    let g = leb-true 1 left.0 h in
    let e : left.0 ≡ left.0 - 1 + 1 = omega arith in
    from_counter e
pays (Purse cost) purse h =
    let g = leb-true cost.0 purse.0 h in
    let e : purse.0 ≡ purse.0 - cost.0 + cost.0 = omega arith in
    from_purse e

fits_law : (m : Message) (replay : Timestamp) (r : Right) → fits m replay r ≡ true → Fits m r
unfolding fits covers
fits_law m replay r h = record {
  held = search and_left depth 8;
  id = same_id_eq (search (and_left, and_right) depth 8);
  above_low = ltb-true _ _ (search (and_left, and_right) depth 8);
  up_to_high = leb-true _ _ (search (and_left, and_right) depth 8);
}

fits-live : (m : Message) (replay : Timestamp) (r : Right) → fits m replay r ≡ true → beq (is_live r.name.spe) (live replay m.ts) ≡ true
unfolding fits
fits-live m replay r h = and_right (is_of m.id r && covers r.name.interval m.ts) _ h

module _ {z : Sizes} (b : Pages) (sound : Sound z b) (m : Message) (pass : Passed (message_refusals b m))
    (k p : ℕ) (ek : key_at b m.id ≡ Some k) (ep : payer b m ≡ Some p) where
  key-after : key_in (granted b (Some k) (Some p) m.ts) (Some k) ≡ granted_key m.ts (key_in b (Some k))
  unfolding granted key_in
  key-after = put_same b.keys k _ free_key (key_found b m.id k ek).0

  right-after : right_in (granted b (Some k) (Some p) m.ts) (Some p) ≡ charged_right (right_in b (Some p))
  unfolding granted right_in
  right-after = put_same b.rights p _ free_right (payer_in b m pass p ep)

  it_fits : fits m (key_in b (Some k)).replay (right_in b (Some p)) ≡ true
  unfolding fitting replay_of
  it_fits = rw (← ek, ← ep) (payer-fits b m pass)

  granted-pays : Pays (right_in b (Some p)).account b.purse (right_in (granted b (Some k) (Some p) m.ts) (Some p)).account (granted b (Some k) (Some p) m.ts).purse
  granted-pays = rw right-after (unfold granted charged_right purse_of in pays _ _ (rw ep at (payer-can_pay b m pass)))

  granted_replays : Replays (right_in b (Some p)).name.spe m.ts (key_in b (Some k)).replay (key_in (granted b (Some k) (Some p) m.ts) (Some k)).replay
  unfolding granted_key
  granted_replays = rw key-after (replays _ _ _ (fits-live m _ _ it_fits))

  granted_alone : NothingElse k p b (granted b (Some k) (Some p) m.ts)
  granted_alone = record {
    keys = unfold granted in only_put free_key b.keys k _;
    key-held = rw key-after (unfold granted_key in and_left _ _ (key_found b m.id k ek).1);
    key-id = rw key-after (unfold granted_key in refl);
    key-bytes = rw key-after (unfold granted_key in refl);
    rights = unfold granted in only_put free_right b.rights p _;
    right-held = rw right-after (unfold charged_right in (fits_law m _ _ it_fits).held);
    right_name = rw right-after (unfold charged_right in refl);
  }

  granted_law : (s : List ℕ) → (reading s).frame ≡ Ok (MessageFrame m) → Grant b s (grant b (Some k) (Some p) m.ts)
  unfolding grant
  granted_law s read = record {
    message = m;
    k = k;
    p = p;
    read = read;
    good = message_good b m pass;
    its_key = (key_found b m.id k ek).1;
    fits = fits_law m _ _ it_fits;
    lowest = payer_lowest b m pass p ep;
    pays = granted-pays;
    replays = granted_replays;
    nothing_else = granted_alone;
    handed = refl;
    sixteen = sixteen b sound (Some k);
    reply = unfold as_held purse_of in refl;
  }

-- ## A load

-- the key of that ID, with the bytes that a load carries or with its own
loads_own : (l : Load) (key : List ℕ) (x : Key) (c : Bool) → l.flags.key ≡ c → is_key l.name.id x ≡ true → LoadsKey l key x (loaded_key l.name.id c key x)
unfolding loaded_key
loads_own l key x true e h = replaced h e
loads_own l key x false e h =
    let g : x.held ≡ true = and_left _ _ h in
    let d : x.id ≡ l.name.id = same_id_eq (and_right x.held _ h) in
    subst (LoadsKey l key x) (λ i. record { held = g i; id = d i; replay = x.replay; bytes = x.bytes }) (kept h e)

loads_new : (l : Load) (key : List ℕ) (x : Key) (c : Bool) → l.flags.key ≡ c → not c ≡ false → x.held ≡ false → LoadsKey l key x (loaded_key l.name.id c key free_key)
unfolding loaded_key free_key
loads_new l key x true e h g = new g e
loads_new l key x false e h g = clash refl h

-- the account from which a load counts: the right's, or none
data Before (was : Right) : Account → Type 0 where
  own : was.held ≡ true → Before was was.account
  fresh : was.held ≡ false → Before was (Counted (record { 0 = 0 }))

settles : (l : Load) (was : Right) (purse : Tokens) {before : Account} → Before was before → (c : Credit) → Sort l.name.spe l.amount c
    → Settles l was purse (account_by c l before) (purse_by c l purse)
unfolding raised
settles l was purse w (ToCounter n) e = go l.flags.add refl w
  where
    go : (add : Bool) → l.flags.add ≡ add → {before : Account} → Before was before
        → Settles l was purse (Counted (record { 0 = if add then (counter before).0 + n.0 else n.0 })) purse
    go true h (own g) = counter-raised e.0 g h (ap (λ (x : ℕ). (counter was.account).0 + x) e.1)
    go true h (fresh g) =
        let q : 0 + n.0 ≡ l.amount = omega (arith, e.1) in
        counter_new e.0 g q
    go false h (own g) = counter-set e.0 g h e.1
    go false h (fresh g) = counter_new e.0 g e.1
settles l was purse w (ToPurse t) e = go l.flags.add refl
  where
    go : (add : Bool) → l.flags.add ≡ add → Settles l was purse (Purse l.cost) (record { 0 = if add then purse.0 + t.0 else t.0 })
    go true h = purse-raised e.0 h (ap (λ (x : ℕ). purse.0 + x) e.1)
    go false h = purse-set e.0 h e.1

module _ (b : Pages) (l : Load) (key : List ℕ) (pass : Passed (load_refusals b l))
    (k p : ℕ) (ek : key_room b l.name.id ≡ Some k) (ep : right_room b l.name ≡ Some p) where
  key_takes : Takes (λ x. is_key l.name.id x) (λ x. x.held) free_key b.keys k
  unfolding key_room key_at free_key_at
  key_takes = takes free_key b.keys _ _ (is_key-free l.name.id) k ek

  right_takes : Takes (λ r. is_right l.name r) (λ r. r.held) free_right b.rights p
  unfolding right_room right_at free_right_at
  right_takes = takes free_right b.rights _ _ (is_right-free l.name) p ep

  loaded-key : key_in (loaded b l key) (Some k) ≡ key_after b l key
  unfolding loaded key_in
  loaded-key = rw ek (put_same b.keys k _ free_key (takes_in key_takes))

  loaded-right : right_in (loaded b l key) (Some p) ≡ loaded_right l (account_by (credit_in l) l (account_before b l.name))
  unfolding loaded right_in
  loaded-right = rw ep (put_same b.rights p _ free_right (takes_in right_takes))

  loads-key : LoadsKey l key (key_in b (Some k)) (key_after b l key)
  unfolding key_after key_room
  loads-key = go (key_at b l.name.id) refl ek (load_keyed b l pass)
    where
      go : (w : Option ℕ) → key_at b l.name.id ≡ w → or_else w (free_key_at b) ≡ Some k → (missing w && not l.flags.key) ≡ false
          → LoadsKey l key (key_in b (Some k)) (loaded_key l.name.id l.flags.key key (key_in b w))
      go (Some j) e q h = rw q (loads_own l key _ l.flags.key refl (key_found b l.name.id k (e ∙ q)).1)
      go None e q h = unfold key_in at in loads_new l key (key_in b (Some k)) l.flags.key refl h (free_key_found b k q)

  before : Before (right_in b (Some p)) (account_before b l.name)
  unfolding account_before right_room
  before = go (right_at b l.name) refl ep
    where
      go : (w : Option ℕ) → right_at b l.name ≡ w → or_else w (free_right_at b) ≡ Some p → Before (right_in b (Some p)) (right_in b w).account
      go (Some j) e q = rw q (own (and_left _ _ (right_found b l.name p (e ∙ q)).1))
      go None e q = unfold right_in at free_right in fresh (free_right_found b p q)

  loaded_law : (s u : List ℕ) → (reading s).frame ≡ Ok (LoadFrame l) → (reading s).key ≡ key
      → Loading b s (record { book = loaded b l key; reply = Loaded (as_held (loaded b l key) (key_room b l.name.id) (right_room b l.name)); buffer = u })
  loaded_law s u read carried = record {
    load = l;
    k = k;
    p = p;
    read = read;
    proper = load_proper b l pass;
    costless = load_costless b l pass;
    key_place = key_takes;
    right_place = right_takes;
    key = rw (loaded-key, carried) loads-key;
    right-held = rw loaded-right (unfold loaded_right in refl);
    right_name = rw loaded-right (unfold loaded_right in refl);
    settles = rw loaded-right (unfold loaded loaded_right purse_of in settles l _ b.purse before (credit_in l) (load_sort b l pass));
    other_keys = unfold loaded in rw ek (only_put free_key b.keys k _);
    other-rights = unfold loaded in rw ep (only_put free_right b.rights p _);
    reply = rw (ek, ep) (unfold as_held purse_of in refl);
  }

-- ## Keys and rights that go, and reports

module _ {z : Sizes} (b : Pages) (sound : Sound z b) where
  -- no right of the ID is left: its key goes
  key_gone : (i : KeyId) (rest : List Right) → missing (first (λ r. is_of i r) rest) ≡ true → Gone (λ x. is_key i x) free_key b.keys (left b i rest).keys
  unfolding left key_at
  key_gone i rest h = rw h (gone_put free_key b.keys (λ m x. is_key m x) sound.one_key i (is_key-free i))

  erased_law : (l : Load) (s u : List ℕ) → (reading s).frame ≡ Ok (LoadFrame l) → is_deletion l.name.spe ≡ true → Passed (erase_refusals b l)
      → (k : ℕ) → key_at b l.name.id ≡ Some k → Erasure b s (record { book = erased b l.name.id; reply = Deleted (user_purse b); buffer = u })
  unfolding erased
  erased_law l s u read o pass k ek = record {
    load = l;
    k = k;
    read = read;
    deletion = o;
    no_flag = erase_no_flag b l pass;
    no_figure = erase_no_figure b l pass;
    its_key = (key_found b l.name.id k ek).1;
    keys = key_gone l.name.id _ (has_not (λ r. is_of l.name.id r) free_right (is_of-free l.name.id) _ (λ j.
        put_all_elim (λ y. is_of l.name.id y ≡ false) free_right _ b.rights j (is_of-free l.name.id) (λ e. e)));
    rights = unfold left in gone_put_all free_right b.rights (λ r. is_of l.name.id r);
    purse = unfold left in refl;
    reply = unfold user_purse in refl;
  }

  dropped_law : (n : RightName) (s u : List ℕ) → (reading s).frame ≡ Ok (DeleteFrame n) → (p : ℕ) → right_at b n ≡ Some p
      → Deletion b s (record { book = dropped b n; reply = Deleted (user_purse b); buffer = u })
  unfolding dropped
  dropped_law n s u read p ep = record {
    name = n;
    p = p;
    read = read;
    its_right = (right_found b n p ep).1;
    rights = unfold left right_at in gone_put free_right b.rights (λ m r. is_right m r) sound.one_right n (is_right-free n);
    key_stays = unfold left in λ h. rw h;
    key_goes = unfold left in key_gone n.id (put (right_at b n) free_right b.rights);
    purse = unfold left in refl;
    reply = unfold user_purse in refl;
  }

  -- a held right has its key
  right_keyed : (n : RightName) (p : ℕ) → right_at b n ≡ Some p → missing (key_at b n.id) ≡ false
  unfolding right_in at
  right_keyed n p ep = sound.keyed n.id ∙ has (λ r. is_of n.id r) free_right (is_of-free n.id) b.rights p (is_right-is_of n (right_in b (Some p)) (right_found b n p ep).1)

  reported_law : (n : RightName) (s u : List ℕ) → (reading s).frame ≡ Ok (ReportFrame n) → (k p : ℕ) → key_at b n.id ≡ Some k → right_at b n ≡ Some p
      → Report b s (record { book = b; reply = Reported (as_held b (key_at b n.id) (right_at b n)); buffer = u })
  reported_law n s u read k p ek ep = record {
    name = n;
    k = k;
    p = p;
    read = read;
    its_key = (key_found b n.id k ek).1;
    its_right = (right_found b n p ep).1;
    book = refl;
    reply = rw (ek, ep) (unfold as_held purse_of in refl);
  }

-- ## Refusals

pub refusal_code_lem : (r : Refusal) → 0x10 ≤ code (Refused r)
unfolding code reply_fields
refusal_code_lem r = leb-true 0x10 (refusal_code r) (go r)
  where
    go : (r : Refusal) → leb 0x10 (refusal_code r) ≡ true
    go BufferLength = refl
    go Unreadable = refl
    go Policy = refl
    go Fields = refl
    go EmptyInterval = refl
    go UnknownId = refl
    go Full = refl
    go Integrity = refl
    go NoFit = refl
    go NoFunds = refl
    go NotHeld = refl

over-code : (b : Pages) (n : RightName) → code (over_reply b n) ≡ 0x17
unfolding over_reply code reply_fields
over-code b n = if_elim (λ (r : Reply). code r ≡ 0x17) (missing (right_at b n)) _ _ (λ e. refl) (λ e. refl)

over_law : {z : Sizes} (b : Pages) → Sound z b → (n : RightName) → Over b n (over_reply b n)
unfolding over_reply
over_law b sound n = if_elim (Over b n) (missing (right_at b n)) _ _ (λ e. new_right (absent _ e)) (λ e. held-right (present _ e))
  where
    new_right : right_at b n ≡ None → Over b n (OverNew (user_purse b))
    new_right e = unfold user_purse right_at right_in at in right_new (first-none (λ r. is_right n r) free_right (is_right-free n) b.rights e)

    held-right : (p : ℕ) × (right_at b n ≡ Some p) → Over b n (OverHeld (as_held b (key_at b n.id) (right_at b n)))
    held-right (p, ep) =
        let (k, ek) = present (key_at b n.id) (right_keyed b sound n p ep) in
        rw (ek, ep) (unfold as_held purse_of in right-held k p (key_found b n.id k ek).1 (right_found b n p ep).1)

-- ## Every call

module _ {z : Sizes} (b : Pages) (sound : Sound z b) (s u : List ℕ) where
  outcome : {x : Seen} {key : List ℕ} {a : After} → Done b u x key a → (reading s).frame ≡ x → (reading s).key ≡ key → Outcome b s u a
  unfolding code reply_fields
  outcome (refused (plain r)) read key = Outcome.refused r refl (refusal_code_lem r) (record { book = refl; buffer = refl })
  outcome (refused (over {l})) read key = Outcome.limit_passed l read (over_law b sound l.name) (over-code b l.name) (record { book = refl; buffer = refl })
  outcome (was_loaded {l} {key} o pass) read carried =
      let (k, ek) = present _ (key_has_room b l pass) in
      let (p, ep) = present _ (right_has_room b l pass) in
      Outcome.loaded refl (loaded_law b l key pass k p ek ep s u read carried) refl
  outcome (was_erased {l} o pass) read key =
      let (k, ek) = present _ (erase-held b l pass) in
      Outcome.erased refl (erased_law b sound l s u read o pass k ek) refl
  outcome (was_granted {m} pass) read key =
      let (k, ek) = present (key_at b m.id) (message_keyed b m pass) in
      let (p, ep) = present (payer b m) (payer_found b m pass) in
      Outcome.granted (unfold grant in refl) (rw (ek, ep) (granted_law b sound m pass k p ek ep s read))
  outcome (was_reported {n} pass) read key =
      let (p, ep) = present _ (report-held b n pass) in
      let (k, ek) = present _ (right_keyed b sound n p ep) in
      Outcome.reported refl (reported_law b sound n s u read k p ek ep) refl
  outcome (was_dropped {n} pass) read key =
      let (p, ep) = present _ (delete-held b n pass) in
      Outcome.deleted refl (dropped_law b sound n s u read p ep) refl

pub every_call : EveryCall
every_call z b sound s u = outcome b sound s u (call_done b s u) refl refl

pub grants_charge : GrantsCharge
grants_charge z b sound s u = go (every_call z b sound s u)
  where
    go : {a : After} → Outcome b s u a → code a.reply ≡ 0x01 → Grant b s a
    go (Outcome.refused r e h f) q = absurd (omega arith)
    go (Outcome.limit_passed l e g h f) q = absurd (omega arith)
    go (Outcome.granted h g) q = g
    go (Outcome.reported h r f) q = absurd (omega arith)
    go (Outcome.loaded h l f) q = absurd (omega arith)
    go (Outcome.erased h d f) q = absurd (omega arith)
    go (Outcome.deleted h d f) q = absurd (omega arith)

fits_free : (b : Pages) (m : Message) → fitting b m free_right ≡ false
unfolding fitting fits free_right
fits_free b m = refl

pays_free : (b : Pages) (m : Message) → paying b m free_right ≡ false
unfolding paying
pays_free b m = rw (fits_free b m)

pub grants_when_paid : GrantsWhenPaid
unfolding step act message buffer_refusals message_refusals code reply_fields grant right_in at
grants_when_paid b s u m j long read good keyed pays =
    ap (λ (a : After). code a.reply)
    (call_step b s u (MessageFrame m) read
    ∙ sym (passed b u (buffer_refusals u) _ (ap not (eq-eqb (length u) key_bytes long), tt))
    ∙ sym (passed b u (message_refusals b m) _ (
      ap not good,
      (
        keyed,
        (
          has (λ r. fitting b m r) free_right (fits_free b m) b.rights j (unfold paying in and_left _ _ pays),
          (has (λ r. paying b m r) free_right (pays_free b m) b.rights j pays, tt),
        ),
      ),
    )))

pub refusals_alter_nothing : RefusalsAlterNothing
unfolding code reply_fields grant
refusals_alter_nothing b s u = go (call_done b s u)
  where
    go : {x : Seen} {key : List ℕ} {a : After} → Done b u x key a → 0x10 ≤ code a.reply → Unchanged b u a
    go (refused h) q = record { book = refl; buffer = refl }
    go (was_loaded o p) q = clash (le-leb 0x10 _ q) refl
    go (was_erased o p) q = clash (le-leb 0x10 _ q) refl
    go (was_granted p) q = clash (le-leb 0x10 _ q) refl
    go (was_reported p) q = record { book = refl; buffer = refl }
    go (was_dropped p) q = clash (le-leb 0x10 _ q) refl

pub only_grants_write : OnlyGrantsWrite
unfolding code reply_fields
only_grants_write b s u = go (call_done b s u)
  where
    go : {x : Seen} {key : List ℕ} {a : After} → Done b u x key a → (code a.reply ≡ 0x01 → ⊥) → a.buffer ≡ u
    go (refused h) q = refl
    go (was_loaded o p) q = refl
    go (was_erased o p) q = refl
    go (was_granted p) q = absurd (q (unfold grant in refl))
    go (was_reported p) q = refl
    go (was_dropped p) q = refl

pub wrong_buffer : WrongBuffer
unfolding call buffer_refusals unless
wrong_buffer b s u h = rw (ne_eqb (length u) key_bytes h)

pub reader_refuses : ReaderRefuses
unfolding call buffer_refusals unless taken
reader_refuses b s u r h e = rw (eq-eqb (length u) key_bytes h, e)

pub empty_book_lem : EmptyBook
unfolding blank key_in right_in at
empty_book_lem z = record {
  free_keys = λ j. rw (get_or-blank z.keys j free_key) (unfold free_key in refl);
  zero_bytes = λ j. rw (get_or-blank z.keys j free_key) (unfold free_key in refl);
  free_rights = λ j. rw (get_or-blank z.rights j free_right) (unfold free_right in refl);
  no_tokens = refl;
}
