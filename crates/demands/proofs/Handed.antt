-- Demand 3, second half: a grant hands out the key of the latest accepted load that carried one for the ID. Assumes nothing.
use Prim.Native.Nat.{ℕ, ◌≤◌}
use native.Mathlib.Omega.{arith}
use mathlib.Core.Path.{◌≡◌, refl, ap, ◌∙◌}
use mathlib.Core.Logic.{◌⊎◌, inl, inr}
use mathlib.Core.Bool.{Bool, true, false, not, ◌&&◌}
use mathlib.Core.List.{List, [], ◌∷◌}
use lib.ListN.{get_or}
use lib.Dec.{eqb}
use borrow.Author.Tests.{ne_eqb}
use Rattle.std.specs.Prelude.{if◌then◌else◌}
use Rattle.places.specs.Words.{first, missing}
use Rattle.places.proofs.Lists.{by_test, clash, put_elim, put_cases, first_sat, at_all, get_or-blank}
use Rattle.places.proofs.Tests.{if_elim, or_left, or_right}
use Rattle.figures.specs.Names.{same_id}
use Rattle.figures.specs.Rights.{is_of}
use Rattle.figures.specs.Keys.{free_key, is_key, granted_key, loaded_key}
use Rattle.figures.proofs.Naming.{same_id_eq, is_key-free}
use Rattle.frames.specs.Reading.{reading}
use Rattle.rules.specs.Pages.{Pages, Sizes, blank, key_at, right_at, key_in, key_room}
use Rattle.rules.specs.Calls.{After}
use Rattle.rules.specs.Loads.{key_after, loaded, load_refusals, over_reply}
use Rattle.rules.specs.Deletions.{left, dropped, erased, erase_refusals}
use Rattle.figures.specs.Loads.{laden}
use Rattle.rules.specs.Messages.{granted, grant, message_refusals}
use Rattle.rules.specs.Replies.{reply_fields, code}
use Rattle.rules.specs.Sound.{Sound}
use Rattle.rules.proofs.Refusals.{Passed}
use Rattle.rules.proofs.OneCall.{refusal_code_lem}
use Rattle.rules.proofs.View.{Refuses, plain, over, Done, refused, was_loaded, was_erased, was_granted, was_reported, was_dropped, call_done}
use Rattle.rules.proofs.Kept.{blank_sound, call_sound, key_at_is}
use Rattle.demands.specs.Types.{Option, Some, Timestamp, KeyId, Right, Key, Load, Reply, Seen}
use Rattle.demands.specs.Runs.{Call, called, final, events}
use Rattle.demands.specs.Demand3.{Given, never, last, carries_for, given_by, last_given, HandsOut, GrantsHandOutTheKey}

-- each held key has the bytes that its ID was last given
Keeps : Pages → (KeyId → Given) → Type 0
Keeps b old = (i : KeyId) (j : ℕ) → is_key i (get_or b.keys j free_key) ≡ true → last (get_or b.keys j free_key).bytes ≡ old i

module _ (b : Pages) (old : KeyId → Given) (h : Keeps b old) where
  key_in_keeps : (k : Option ℕ) (m : KeyId) → is_key m (key_in b k) ≡ true → last (key_in b k).bytes ≡ old m
  unfolding Keeps key_in
  key_in_keeps k m = at_all free_key b.keys (λ y. is_key m y ≡ true → last y.bytes ≡ old m) (λ e. clash e (is_key-free m)) (h m) k

  key_at_keeps : (i : KeyId) → missing (key_at b i) ≡ false → last (key_in b (key_at b i)).bytes ≡ old i
  unfolding key_in key_at
  key_at_keeps i e = key_in_keeps (key_at b i) i (first_sat free_key b.keys (λ k. is_key i k) e)

  granted_keeps : (k r : Option ℕ) (ts : Timestamp) → Keeps (granted b k r ts) old
  unfolding Keeps granted granted_key
  granted_keeps k r ts m j = put_elim (λ y. is_key m y ≡ true → last y.bytes ≡ old m) free_key k _ b.keys j (λ e. key_in_keeps k m) (h m j)

  left_keeps : (i : KeyId) (rest : List Right) → Keeps (left b i rest) old
  unfolding Keeps left
  left_keeps i rest m j =
      if_elim (λ (l : List Key). is_key m (get_or l j free_key) ≡ true → last (get_or l j free_key).bytes ≡ old m) (missing (first (λ r. is_of i r) rest)) _ _
      (λ e. put_elim (λ y. is_key m y ≡ true → last y.bytes ≡ old m) free_key (key_at b i) free_key b.keys j (λ q t. clash t (is_key-free m)) (h m j))
      (λ e. h m j)

and_false : (t : Bool) → (t && false) ≡ false
and_false true = refl
and_false false = refl

carried_or_held : (t : Bool) → (t && not false) ≡ false → t ≡ false
carried_or_held true e = e
carried_or_held false e = refl

module _ {z : Sizes} (b : Pages) (s : Sound z b) (old : KeyId → Given) (h : Keeps b old) (l : Load) (key : List ℕ) (p : Passed (load_refusals b l)) where
  -- an ID that is not held comes with its key
  known : (missing (key_at b l.name.id) && not l.flags.key) ≡ false
  unfolding load_refusals
  known = p.1.1.1.0

  loaded_keeps : Keeps (loaded b l key) (λ i. if l.flags.key && same_id l.name.id i then last key else old i)
  unfolding Keeps loaded key_after loaded_key key_room
  loaded_keeps i j =
      put_cases (λ y. is_key i y ≡ true → last y.bytes ≡ (if l.flags.key && same_id l.name.id i then last key else old i)) free_key (key_room b l.name.id) _ b.keys j
      (λ e. clash e (is_key-free i)) (λ e q. here l.flags.key refl q) (λ f t. there f t (by_test (same_id l.name.id i)))
    where
      here : (c : Bool) → l.flags.key ≡ c → same_id l.name.id i ≡ true
          → last (if c then key else (key_in b (key_at b l.name.id)).bytes) ≡ (if c && same_id l.name.id i then last key else old i)
      here true e q = rw q
      here false e q =
          let g : l.name.id ≡ i = same_id_eq q in
          key_at_keeps b old h l.name.id (carried_or_held (missing (key_at b l.name.id)) (rw e at known)) ∙ ap old g

      there : (key_room b l.name.id ≡ Some j → ⊥) → is_key i (get_or b.keys j free_key) ≡ true → (same_id l.name.id i ≡ true) ⊎ (same_id l.name.id i ≡ false)
          → last (get_or b.keys j free_key).bytes ≡ (if l.flags.key && same_id l.name.id i then last key else old i)
      there f t (inl e) = let g : l.name.id ≡ i = same_id_eq e in absurd (f (rw (g, key_at_is b s i j t)))
      there f t (inr e) = rw (e, and_false l.flags.key) (h i j t)

-- ## Runs

-- a refusal is a code of 10 or more
refuses_high : {b : Pages} {x : Seen} {r : Reply} → Refuses b x r → 0x10 ≤ code r
unfolding over_reply code reply_fields
refuses_high (plain r) = refusal_code_lem r
refuses_high {b} (over {l}) = if_elim (λ (r : Reply). 0x10 ≤ code r) (missing (right_at b l.name)) _ _ (λ e. omega arith) (λ e. omega arith)

not_accepted : {b : Pages} {x : Seen} {r : Reply} → Refuses b x r → eqb (code r) 0x00 ≡ false
not_accepted {r} h = let g = refuses_high h in ne_eqb (code r) 0x00 (λ e. omega arith)

-- a deletion that is accepted carries no key
deletion_bare : (b : Pages) (l : Load) → Passed (erase_refusals b l) → l.flags.key ≡ false
unfolding erase_refusals laden
deletion_bare b l p = let h = p.0 in search (or_left, or_right)

done_keeps : {z : Sizes} {b : Pages} {u : List ℕ} {x : Seen} {key : List ℕ} {a : After} (old : KeyId → Given) → Sound z b → Keeps b old → Done b u x key a
    → Keeps a.book (λ i. if eqb (code a.reply) 0x00 && carries_for i x then last key else old i)
unfolding Keeps carries_for code reply_fields erased dropped grant
done_keeps old s h (refused e) i j t = rw (not_accepted e) (h i j t)
done_keeps {b} old s h (was_loaded {l} {key} o p) i j t = loaded_keeps b s old h l key p i j t
done_keeps {b} old s h (was_erased {l} o p) i j t = rw (deletion_bare b l p) (left_keeps b old h l.name.id _ i j t)
done_keeps {b} old s h (was_granted {m} p) i j t = granted_keeps b old h _ _ m.ts i j t
done_keeps old s h (was_reported p) i j t = h i j t
done_keeps {b} old s h (was_dropped {n} p) i j t = left_keeps b old h n.id _ i j t

run_keeps : {z : Sizes} (b : Pages) (old : KeyId → Given) → Sound z b → Keeps b old → (cs : List Call)
    → Keeps (final b cs) (λ i. last_given i (old i) (events b cs))
unfolding final events last_given given_by
run_keeps b old s h [] = h
run_keeps b old s h (c ∷ cs) =
    run_keeps (called b c).book (λ i. given_by i (old i) (record { frame = c.frame; reply = (called b c).reply })) (call_sound b s c.frame c.buffer)
    (done_keeps old s h (call_done b c.frame c.buffer)) cs

blank_keeps : (z : Sizes) (old : KeyId → Given) → Keeps (blank z) old
unfolding Keeps blank
blank_keeps z old i j h = clash (rw (get_or-blank z.keys j free_key) at h) (is_key-free i)

done_hands : {b : Pages} {u : List ℕ} {x : Seen} {key : List ℕ} {a : After} (old : KeyId → Given) → Keeps b old → Done b u x key a → code a.reply ≡ 0x01
    → HandsOut x old a.buffer
unfolding code reply_fields grant message_refusals
done_hands old h (refused e) c = let g = refuses_high e in absurd (omega arith)
done_hands old h (was_loaded o p) c = absurd (omega arith)
done_hands old h (was_erased o p) c = absurd (omega arith)
done_hands {b} old h (was_granted {m} p) c = record { message = m; asked = refl; handed = key_at_keeps b old h m.id p.1.0 }
done_hands old h (was_reported p) c = absurd (omega arith)
done_hands old h (was_dropped p) c = absurd (omega arith)

-- in any run from an empty book, a grant leaves in the lent buffer the key that its ID was last given, and no other bytes; and there was such a load
pub run_hands : (z : Sizes) (cs : List Call) (c : Call) → code (called (final (blank z) cs) c).reply ≡ 0x01
    → HandsOut (reading c.frame).frame (λ i. last_given i never (events (blank z) cs)) (called (final (blank z) cs) c).buffer
run_hands z cs c =
    done_hands (λ i. last_given i never (events (blank z) cs)) (run_keeps (blank z) (λ i. never) (blank_sound z) (blank_keeps z (λ i. never)) cs)
    (call_done (final (blank z) cs) c.frame c.buffer)

pub grants_hand_out_the_key : GrantsHandOutTheKey
grants_hand_out_the_key = run_hands _
