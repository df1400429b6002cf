-- The corollaries that sell the product, from the laws of one call. Assumes nothing.
use Prim.Native.Nat.{ℕ, ◌+◌, ◌<◌, ◌≤◌}
use native.Mathlib.Omega.{arith}
use mathlib.Core.Path.{◌≡◌, refl, ap, ◌∙◌, sym, subst}
use mathlib.Core.Logic.{◌⊎◌, inl, inr}
use mathlib.Core.Bool.{Bool, true, false}
use mathlib.Core.List.{List, [], ◌∷◌}
use lib.ListN.{get_or}
use lib.Dec.{eqb, ltb}
use borrow.Author.Tests.{ltb-true, le-ltb, eqb-true, eq-eqb}
use Rattle.places.specs.Words.{first, at, missing}
use Rattle.places.proofs.Lists.{by_test, clash, first-at, present}
use Rattle.figures.specs.Names.{live}
use Rattle.figures.specs.Names.{same_id}
use Rattle.figures.specs.Keys.{free_key, is_key}
use Rattle.figures.proofs.Naming.{same_id_eq}
use Rattle.places.proofs.Tests.{and_left, and_right}
use Rattle.figures.specs.Rights.{free_right, is_of}
use Rattle.frames.specs.Reading.{reading}
use Rattle.rules.specs.Pages.{Pages, Sizes, key_at, key_in, right_in}
use Rattle.rules.specs.Calls.{After}
use Rattle.rules.specs.Messages.{replay_of}
use Rattle.rules.specs.Replies.{reply_fields, code}
use Rattle.rules.specs.Sound.{Sound, by_call}
use Rattle.rules.specs.OneCall.{OnlyAt, Gone, Replays, as_live, as_playback, Pays, from_counter, from_purse, Grant, LoadsKey, new, replaced, kept, Outcome, refused, limit_passed, granted, reported, loaded, erased, deleted}
use Rattle.rules.proofs.OneCall.{every_call, grants_charge}
use Rattle.rules.proofs.Kept.{call_sound, reached_sound, key_at_is}
use Rattle.demands.specs.Types.{Option, Some, TrafficKeys, Timestamp, KeyId, Counted, Account, Tokens, Key, Load, Message, Seen, Reply, Loaded, Deleted, Granted, Reported, OverHeld, OverNew, Refused, Frame, MessageFrame, Ok}
use Rattle.demands.specs.Runs.{Call, called, final, replies}
use Rattle.demands.specs.Corollaries.{paid_from_purse, Holding, none, more, LiveGrant, RepeatNeverLive, NoTsTwiceLive, took, took_all, is_loaded, PurseLosesWhatGrantsTook, ExhaustedStays}

-- ## The replay counter of a held key never falls

replay_in : {z : Sizes} (b : Pages) → Sound z b → (i : KeyId) (j : ℕ) → is_key i (get_or b.keys j free_key) ≡ true → replay_of b i ≡ (get_or b.keys j free_key).replay
unfolding replay_of key_in at
replay_in b s i j h = ap (λ (w : Option ℕ). (at free_key w b.keys).replay) (key_at_is b s i j h)

held_in : (b : Pages) (i : KeyId) → missing (key_at b i) ≡ false → (j : ℕ) × (is_key i (get_or b.keys j free_key) ≡ true)
unfolding key_at free_key
held_in b i h = go (present (first (λ k. is_key i k) b.keys) h)
  where
    go : (j : ℕ) × (first (λ k. is_key i k) b.keys ≡ Some j) → (j : ℕ) × (is_key i (get_or b.keys j free_key) ≡ true)
    go (j, e) = (j, (first-at (λ k. is_key i k) free_key refl b.keys e).1)

-- a place that keeps its key keeps the counter of the ID
same_place : {z : Sizes} (b a : Pages) → Sound z b → Sound z a → (i : KeyId) (j : ℕ) → is_key i (get_or b.keys j free_key) ≡ true
    → get_or a.keys j free_key ≡ get_or b.keys j free_key → (replay_of b i).0 ≤ (replay_of a i).0
same_place b a s t i j h e =
    let p = replay_in b s i j h in
    let q = replay_in a t i j (rw e h) in
    let r : (replay_of b i).0 ≡ (replay_of a i).0 = ap (λ (x : Timestamp). x.0) (p ∙ sym (ap (λ (k : Key). k.replay) e) ∙ sym q) in
    omega arith

-- what was held in the place of a key that goes is not held afterwards
gone_place : {z : Sizes} (b a : Pages) → Sound z b → Sound z a → (i : KeyId) (is : Key → Bool) → Gone is free_key b.keys a.keys
    → missing (key_at a i) ≡ false → (replay_of b i).0 ≤ (replay_of a i).0
unfolding free_key
gone_place b a s t i is g h = go (held_in a i h)
  where
    go : (j : ℕ) × (is_key i (get_or a.keys j free_key) ≡ true) → (replay_of b i).0 ≤ (replay_of a i).0
    go (j, e) = case (by_test (is (get_or b.keys j free_key)))
      where
        case : (is (get_or b.keys j free_key) ≡ true) ⊎ (is (get_or b.keys j free_key) ≡ false) → (replay_of b i).0 ≤ (replay_of a i).0
        case (inl q) = clash (rw (g.gone j q) at e) refl
        case (inr q) = same_place b a s t i j (rw (g.others j q) at e) (g.others j q)

replays_up : {spe : ℕ} {ts x y : Timestamp} → Replays spe ts x y → x.0 ≤ y.0
replays_up (as_live l h) = omega arith
replays_up (as_playback l h) = omega arith

-- a load leaves the ID and the counter of a key that was held
loads_keep : {l : Load} {key : List ℕ} {was now : Key} (i : KeyId) → LoadsKey l key was now → is_key i was ≡ true → (is_key i now ≡ true) × (was.replay ≡ now.replay)
loads_keep {was} i (new h c) e = clash (and_left _ _ e) h
loads_keep {l} {was} i (replaced h c) e =
    let p : was.id ≡ l.name.id = same_id_eq (and_right was.held _ h) in
    (subst (λ (x : KeyId). same_id x i ≡ true) p (and_right was.held _ e), refl)
loads_keep i (kept h c) e = (e, refl)

apart : (j k : ℕ) → eqb j k ≡ false → j ≡ k → ⊥
apart j k h e = clash (eq-eqb j k e) h

same_book : (b a : Pages) (i : KeyId) → a ≡ b → (replay_of b i).0 ≤ (replay_of a i).0
same_book b a i e = let r : (replay_of a i).0 ≡ (replay_of b i).0 = ap (λ (p : Pages). (replay_of p i).0) e in omega arith

module _ {z : Sizes} (b : Pages) (s : Sound z b) (a : After) (t : Sound z a.book) (i : KeyId) where
  -- in a place that keeps its ID
  place_up : (j : ℕ) → is_key i (key_in b (Some j)) ≡ true → is_key i (key_in a.book (Some j)) ≡ true → (key_in b (Some j)).replay.0 ≤ (key_in a.book (Some j)).replay.0
      → (replay_of b i).0 ≤ (replay_of a.book i).0
  unfolding key_in at
  place_up j h k l =
      let p = ap (λ (x : Timestamp). x.0) (replay_in b s i j h) in
      let q = ap (λ (x : Timestamp). x.0) (replay_in a.book t i j k) in
      omega arith

  -- only place k alters, and the key of the ID keeps standing there if it did
  one_place : (k : ℕ) → OnlyAt free_key k b.keys a.book.keys
      → (is_key i (key_in b (Some k)) ≡ true → (is_key i (key_in a.book (Some k)) ≡ true) × ((key_in b (Some k)).replay.0 ≤ (key_in a.book (Some k)).replay.0))
      → missing (key_at b i) ≡ false → (replay_of b i).0 ≤ (replay_of a.book i).0
  unfolding key_in at
  one_place k only f h = go (held_in b i h)
    where
      here_or_not : (j : ℕ) → is_key i (get_or b.keys j free_key) ≡ true → (eqb j k ≡ true) ⊎ (eqb j k ≡ false) → (replay_of b i).0 ≤ (replay_of a.book i).0
      here_or_not j e (inl q) =
          let o : is_key i (key_in b (Some k)) ≡ true = subst (λ (n : ℕ). is_key i (get_or b.keys n free_key) ≡ true) (eqb-true j k q) e in
          place_up k o (f o).0 (f o).1
      here_or_not j e (inr q) = same_place b a.book s t i j e (only.others j (apart j k q))

      go : (j : ℕ) × (is_key i (get_or b.keys j free_key) ≡ true) → (replay_of b i).0 ≤ (replay_of a.book i).0
      go (j, e) = here_or_not j e (by_test (eqb j k))

  grant_keeps : {x : List ℕ} (g : Grant b x a) → is_key i (key_in b (Some g.k)) ≡ true → is_key i (key_in a.book (Some g.k)) ≡ true
  grant_keeps g o = rw (g.nothing_else.key-held, g.nothing_else.key-id) (and_right (key_in b (Some g.k)).held _ o)

  rises : (x u : List ℕ) → Outcome b x u a → missing (key_at b i) ≡ false → missing (key_at a.book i) ≡ false → (replay_of b i).0 ≤ (replay_of a.book i).0
  rises x u (refused r e c w) h k = same_book b a.book i w.book
  rises x u (limit_passed l e o c w) h k = same_book b a.book i w.book
  rises x u (reported c r q) h k = same_book b a.book i r.book
  rises x u (granted c g) h k = one_place g.k g.nothing_else.keys (λ o. (grant_keeps g o, replays_up g.replays)) h
  rises x u (loaded c l q) h k =
      one_place l.k l.other_keys (λ o. let w = loads_keep i l.key o in (w.0, let v = ap (λ (y : Timestamp). y.0) w.1 in omega arith)) h
  rises x u (erased c r q) h k = gone_place b a.book s t i _ r.keys k
  rises x u (deleted c r q) h k = goes_or_stays (by_test (missing (first (λ y. is_of r.name.id y) a.book.rights)))
    where
      goes_or_stays : (missing (first (λ y. is_of r.name.id y) a.book.rights) ≡ true) ⊎ (missing (first (λ y. is_of r.name.id y) a.book.rights) ≡ false)
          → (replay_of b i).0 ≤ (replay_of a.book i).0
      goes_or_stays (inl e) = gone_place b a.book s t i _ (r.key_goes e) k
      goes_or_stays (inr e) =
          let f = held_in b i h in
          same_place b a.book s t i f.0 f.1 (ap (λ (l : List Key). get_or l f.0 free_key) (r.key_stays e))

-- ## Runs

unlive : (replay ts : Timestamp) → live replay ts ≡ true → ltb replay.0 ts.0 ≡ true
unfolding live
unlive replay ts h = h

after_sound : {z : Sizes} (b : Pages) → Sound z b → (c : Call) → Sound z (called b c).book
after_sound b s c = call_sound b s c.frame c.buffer

run_rises : {z : Sizes} (b : Pages) → Sound z b → (i : KeyId) (cs : List Call) → missing (key_at b i) ≡ false → Holding i b cs
    → (replay_of b i).0 ≤ (replay_of (final b cs) i).0
unfolding final
run_rises b s i [] h none = omega arith
run_rises {z} b s i (c ∷ cs) h (more k r) =
    let t = after_sound b s c in
    let one = rises b s (called b c) t i c.frame c.buffer (every_call z b s c.frame c.buffer) h k in
    let rest = run_rises (called b c).book t i cs k r in
    omega arith

same_message : {m n : Message} → ◌≡◌ {A = Seen} (Ok (MessageFrame m)) (Ok (MessageFrame n)) → m ≡ n
same_message e = cc

replays_live : {spe : ℕ} {ts x y : Timestamp} → Replays spe ts x y → x.0 < ts.0 → y.0 ≡ ts.0
replays_live (as_live l h) q = refl
replays_live (as_playback l h) q = absurd (omega arith)

-- a live grant leaves the counter at its TS
live-sets : {z : Sizes} (b : Pages) → Sound z b → (i : KeyId) (ts : Timestamp) (c : Call) → LiveGrant i ts b c
    → (missing (key_at (called b c).book i) ≡ false) × ((replay_of (called b c).book i).0 ≡ ts.0)
unfolding key_in at
live-sets {z} b s i ts c l =
    let t = after_sound b s c in
    let g = grants_charge z b s c.frame c.buffer l.granted in
    let e : g.message ≡ l.message = same_message (sym g.read ∙ l.read) in
    let n : g.message.id ≡ i = ap (λ (m : Message). m.id) e ∙ l.for_id in
    let o : is_key i (key_in b (Some g.k)) ≡ true = subst (λ (x : KeyId). is_key x (key_in b (Some g.k)) ≡ true) n g.its_key in
    let k : is_key i (key_in (called b c).book (Some g.k)) ≡ true = grant_keeps b s (called b c) t i g o in
    let before : (replay_of b i).0 ≡ (key_in b (Some g.k)).replay.0 = ap (λ (x : Timestamp). x.0) (replay_in b s i g.k o) in
    let after : (replay_of (called b c).book i).0 ≡ (key_in (called b c).book (Some g.k)).replay.0 = ap (λ (x : Timestamp). x.0) (replay_in (called b c).book t i g.k k) in
    let same : g.message.ts.0 ≡ ts.0 = ap (λ (m : Message). m.ts.0) e ∙ ap (λ (x : Timestamp). x.0) l.at_ts in
    let below : (replay_of b i).0 < ts.0 = ltb-true (replay_of b i).0 ts.0 (unlive (replay_of b i) ts l.is_live) in
    let set : (key_in (called b c).book (Some g.k)).replay.0 ≡ g.message.ts.0 = replays_live g.replays (omega arith) in
    (ap missing (key_at_is (called b c).book t i g.k k), after ∙ set ∙ same)

pub repeat_never_live : RepeatNeverLive
unfolding live
repeat_never_live z b h i ts c cs once holds =
    let s = reached_sound h in
    let f = live-sets b s i ts c once in
    let up = run_rises (called b c).book (after_sound b s c) i cs f.0 holds in
    le-ltb (replay_of (final (called b c).book cs) i).0 ts.0 (omega (arith, f.1))

pub no_ts_twice_live : NoTsTwiceLive
no_ts_twice_live z b h i ts c cs d once holds twice = clash twice.is_live (repeat_never_live z b h i ts c cs once holds)

-- ## The purse

open_took : {b : Pages} {x : List ℕ} {a : After} (g : Grant b x a) → took a.reply ≡ paid_from_purse (right_in a.book (Some g.p)).account
unfolding took
open_took g = ap took g.reply

pays-purse : {x y : Account} {p q : Tokens} → Pays x p y q → p.0 ≡ q.0 + paid_from_purse y
pays-purse (from_counter e) = omega arith
pays-purse (from_purse e) = e

not_loaded : (r : Reply) → 0x10 ≤ code r → took r ≡ 0
unfolding took code reply_fields
not_loaded (Loaded s) h = refl
not_loaded (Deleted p) h = refl
not_loaded (Granted s) h = absurd (omega arith)
not_loaded (Reported s) h = refl
not_loaded (OverHeld s) h = refl
not_loaded (OverNew p) h = refl
not_loaded (Refused r) h = refl

-- one call that is no load: what the purse lost is what the reply says was taken
call-took : {b : Pages} {x u : List ℕ} {a : After} → Outcome b x u a → is_loaded a.reply ≡ false → b.purse.0 ≡ a.book.purse.0 + took a.reply
unfolding took is_loaded
call-took {a} (refused r e c w) n = let t = not_loaded a.reply c in let v = ap (λ (p : Pages). p.purse.0) w.book in omega arith
call-took {a} (limit_passed l e o c w) n = let t = not_loaded a.reply (omega arith) in let v = ap (λ (p : Pages). p.purse.0) w.book in omega arith
call-took (granted c g) n = let w = open_took g in let v = pays-purse g.pays in omega arith
call-took (reported c r q) n = let w = ap took r.reply in let v = ap (λ (p : Pages). p.purse.0) r.book in omega arith
call-took (loaded c l q) n = clash (ap is_loaded l.reply) n
call-took (erased c r q) n = let w = ap took r.reply in let v = ap (λ (t : Tokens). t.0) r.purse in omega arith
call-took (deleted c r q) n = let w = ap took r.reply in let v = ap (λ (t : Tokens). t.0) r.purse in omega arith

pub purse_loses_what_grants_took : PurseLosesWhatGrantsTook
unfolding final replies took_all
purse_loses_what_grants_took z b h [] n = omega arith
purse_loses_what_grants_took z b h (c ∷ cs) n =
    let one = call-took (every_call z b (reached_sound h) c.frame c.buffer) n.0 in
    let rest = purse_loses_what_grants_took z (called b c).book (by_call h c.frame c.buffer) cs n.1 in
    omega arith

-- ## An exhausted right

cannot_pay : {x y : Account} {p q : Tokens} (n : TrafficKeys) → Pays x p y q → x ≡ Counted n → n.0 ≡ 0 → ⊥
cannot_pay n (from_counter {before} e) h q = let w : before ≡ n = cc in let v = ap (λ (k : TrafficKeys). k.0) w in omega arith
cannot_pay n (from_purse e) h q = let z : ◌≡◌ {A = ℕ} 0 1 = cc in omega arith

module _ (b : Pages) (x : List ℕ) (m : Message) (e : (reading x).frame ≡ Ok (MessageFrame m)) (p : ℕ) (n : TrafficKeys) (h : (right_in b (Some p)).account ≡ Counted n) (q : n.0 ≡ 0) where
  not_this : {f : Frame} → (reading x).frame ≡ Ok f → f ≡ MessageFrame m
  not_this r = let w : ◌≡◌ {A = Seen} (Ok _) (Ok (MessageFrame m)) = sym r ∙ e in cc

  exhausted_in : {u : List ℕ} {a : After} → Outcome b x u a → right_in a.book (Some p) ≡ right_in b (Some p)
  unfolding right_in at
  exhausted_in (refused r y c w) = ap (λ (y : Pages). get_or y.rights p free_right) w.book
  exhausted_in (limit_passed l y o c w) = ap (λ (y : Pages). get_or y.rights p free_right) w.book
  exhausted_in (reported c r v) = ap (λ (y : Pages). get_or y.rights p free_right) r.book
  exhausted_in {a} (granted c g) = this_or_other (by_test (eqb p g.p))
    where
      this_or_other : (eqb p g.p ≡ true) ⊎ (eqb p g.p ≡ false) → get_or a.book.rights p free_right ≡ get_or b.rights p free_right
      this_or_other (inl w) = absurd (cannot_pay n g.pays (subst (λ (k : ℕ). (get_or b.rights k free_right).account ≡ Counted n) (eqb-true p g.p w) h) q)
      this_or_other (inr w) = g.nothing_else.rights.others p (apart p g.p w)
  exhausted_in (loaded c r v) = cc (not_this r.read)
  exhausted_in (erased c r v) = cc (not_this r.read)
  exhausted_in (deleted c r v) = cc (not_this r.read)

pub exhausted_stays : ExhaustedStays
exhausted_stays z b r c m e p n h q = exhausted_in b c.frame m e p n h q (every_call z b (reached_sound r) c.frame c.buffer)
