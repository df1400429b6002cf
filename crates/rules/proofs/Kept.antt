-- Every book that comes from the empty one by calls is sound. Assumes nothing.
use Prim.Native.Nat.{ℕ, ◌≤◌, ◌-◌}
use native.Mathlib.Omega.{arith}
use mathlib.Core.Path.{◌≡◌, refl, ap, ◌∙◌, sym}
use mathlib.Core.Logic.{◌⊎◌, inl, inr}
use mathlib.Core.Bool.{Bool, true, false}
use mathlib.Core.List.{List}
use lib.ListN.{length, get_or, length-replicate}
use borrow.Author.Tests.{ltb-false, le-leb, leb-true}
use Rattle.std.specs.Prelude.{if◌then◌else◌}
use Rattle.places.specs.Words.{first, at, put, put_all, missing, Unique, Clean}
use Rattle.places.proofs.Lists.{clash, by_test, has_not, put_elim, put_cases, put_all_elim, first-put, first-put_all, first-put-at, room_holds, first_sat, at_all, room_put_has, length-put, length-put_all, clean_put, clean_put_all, unique_put, unique_put_same, unique_put_all, unique_first, get_or-blank, fewer_put, fewer_put_all}
use Rattle.places.proofs.Tests.{if_elim, and_left, and_right, and_both, not_held}
use Rattle.figures.specs.Limits.{key_bytes, purse_limit}
use Rattle.figures.specs.Names.{same_id}
use Rattle.figures.specs.Policies.{is_counted, count_limit, purse_limit_of}
use Rattle.figures.specs.Accounts.{charged, spent}
use Rattle.figures.specs.Keys.{free_key, is_key, loaded_key, granted_key}
use Rattle.figures.specs.Rights.{free_right, is_right, is_of, charged_right}
use Rattle.figures.specs.Loads.{credit_in, account_by, purse_by, over_by, loaded_right}
use Rattle.figures.proofs.Naming.{same_id_eq, same_name_eq, other, is_right-is_of, is_key-free, is_of-free, is_right-free}
use Rattle.frames.proofs.Tests.{key_sixteen}
use Rattle.rules.specs.Types.{Option, Some, KeyId, RightName, Account, Counted, Purse, Credit, ToCounter, ToPurse, Tokens, Right, Key, Load, Message, Frame, Seen}
use Rattle.rules.specs.Pages.{Pages, Sizes, blank, key_at, right_at, key_in, right_in, free_key_at, free_right_at, key_room, right_room, purse_of}
use Rattle.rules.specs.Calls.{After}
use Rattle.rules.specs.Loads.{account_before, load_refusals, key_after, loaded}
use Rattle.rules.specs.Deletions.{left, dropped, erased}
use Rattle.rules.specs.Messages.{payer, message_refusals, granted, grant}
use Rattle.rules.specs.Rules.{step, call}
use Rattle.rules.specs.Sound.{fair, Sound, Reached, empty, by_call}
use Rattle.rules.proofs.Refusals.{Passed}
use Rattle.rules.proofs.View.{Done, refused, was_loaded, was_erased, was_granted, was_reported, was_dropped, step_done, call_done}
use Rattle.rules.proofs.Unrefused.{Sort, load_sort, key_has_room, right_has_room, load_within, message_keyed}
use Rattle.rules.proofs.Payer.{payer-held}

-- ## Accounts

-- a held right has an account of its SPE's sort, within its limit
abbrev Fair : Right → Type 0
Fair r = r.held ≡ true → fair r.name.spe r.account ≡ true

free_fair : Fair free_right
unfolding free_right
free_fair h = clash h refl

fair-charged : (s : ℕ) (a : Account) → fair s a ≡ true → fair s (charged a) ≡ true
unfolding fair
fair-charged s (Counted n) h =
    let k = leb-true n.0 (count_limit s).0 (and_right (is_counted s) _ h) in
    and_both {a = is_counted s} (search and_left) (le-leb (n.0 - 1) (count_limit s).0 (omega arith))
fair-charged s (Purse c) h = h

-- the account and the purse that a load within the limits leaves
module _ (l : Load) (held : Account) (purse : Tokens) where
  settled-fair : (k : Credit) → Sort l.name.spe l.amount k → over_by k l held purse ≡ false → fair l.name.spe (account_by k l held) ≡ true
  unfolding fair
  settled-fair (ToCounter n) e q = and_both {a = is_counted l.name.spe} e.0 (le-leb _ (count_limit l.name.spe).0 (ltb-false _ _ q))
  settled-fair (ToPurse t) e q = e.0

  settled-purse : (k : Credit) → purse.0 ≤ purse_limit → over_by k l held purse ≡ false → (purse_by k l purse).0 ≤ purse_limit
  unfolding purse_limit_of
  settled-purse (ToCounter n) p q = p
  settled-purse (ToPurse t) p q = ltb-false _ _ q

spent_within : (a : Account) (purse : Tokens) (n : ℕ) → purse.0 ≤ n → (spent a purse).0 ≤ n
spent_within (Counted left) purse n h = h
spent_within (Purse cost) purse n h = omega arith

-- ## Key bytes

abbrev Sixteen : Key → Type 0
Sixteen k = length k.bytes ≡ key_bytes

free_sixteen : Sixteen free_key
unfolding free_key
free_sixteen = length-replicate {A = ℕ} key_bytes 0

-- the rights that are left when some of an ID go
record Rest (n : ℕ) (b : Pages) (i : KeyId) (rest : List Right) : Type 0 where
  long : length rest ≡ n
  clean : Clean (λ r. r.held) free_right rest
  one : Unique (λ m r. is_right m r) free_right rest
  fairly : (j : ℕ) → Fair (get_or rest j free_right)
  fewer : missing (first (λ r. is_of i r) rest) ≡ false → missing (first (λ r. is_of i r) b.rights) ≡ false
  others : (m : KeyId) → same_id i m ≡ false → missing (first (λ r. is_of m r) rest) ≡ missing (first (λ r. is_of m r) b.rights)

module _ {z : Sizes} (b : Pages) (s : Sound z b) where
  -- a key stands where its ID is found, a right where its name is
  pub key_at_is : (i : KeyId) (j : ℕ) → is_key i (get_or b.keys j free_key) ≡ true → key_at b i ≡ Some j
  unfolding key_at
  key_at_is i j h = unique_first (λ m k. is_key m k) free_key b.keys s.one_key i (is_key-free i) j h

  pub right_at_is : (n : RightName) (j : ℕ) → is_right n (get_or b.rights j free_right) ≡ true → right_at b n ≡ Some j
  unfolding right_at
  right_at_is n j h = unique_first (λ m r. is_right m r) free_right b.rights s.one_right n (is_right-free n) j h

  -- every key that a place holds has its bytes, and every right its account
  pub sixteen : (w : Option ℕ) → Sixteen (key_in b w)
  unfolding key_in at
  sixteen w = at_all free_key b.keys Sixteen free_sixteen s.key-bytes w

  fair_in : (w : Option ℕ) → Fair (right_in b w)
  unfolding right_in at
  fair_in w = at_all free_right b.rights Fair free_fair s.fair-rights w

  -- ## A load

  module _ (l : Load) (key : List ℕ) (pass : Passed (load_refusals b l)) where
    loaded_keyed : (i : KeyId) → missing (key_at (loaded b l key) i) ≡ missing (first (λ r. is_of i r) (loaded b l key).rights)
    unfolding loaded key_at right_at key_room right_room free_key_at free_right_at key_after loaded_key loaded_right
    loaded_keyed i = go (by_test (same_id l.name.id i))
      where
        go : (same_id l.name.id i ≡ true) ⊎ (same_id l.name.id i ≡ false)
            → missing (key_at (loaded b l key) i) ≡ missing (first (λ r. is_of i r) (loaded b l key).rights)
        go (inl e) = room_put_has b.keys _ _ (λ k. is_key i k) _ e (key_has_room b l pass) ∙ sym (room_put_has b.rights _ _ (λ r. is_of i r) _ e (right_has_room b l pass))
        go (inr e) =
            ap missing
            (first-put (λ k. is_key i k) free_key (key_room b l.name.id) _ b.keys
            (e ∙ sym (room_holds free_key b.keys (λ y. is_key i y ≡ false) (is_key-free i) _ (λ y. other y.held y.id l.name.id i e) _
            (λ y. not_held y.held (same_id y.id i)))))
            ∙ s.keyed i
            ∙ sym (ap missing
            (first-put (λ r. is_of i r) free_right (right_room b l.name) _ b.rights
            (e ∙ sym (room_holds free_right b.rights (λ y. is_of i y ≡ false) (is_of-free i) _
            (λ y h. other y.held y.name.id l.name.id i e (is_right-is_of l.name y h)) _ (λ y. not_held y.held (same_id y.name.id i))))))

    loaded_one_key : (i : KeyId) (j : ℕ) → is_key i (key_after b l key) ≡ true → is_key i (get_or b.keys j free_key) ≡ true → key_room b l.name.id ≡ Some j
    unfolding key_after loaded_key key_room
    loaded_one_key i j hx hj = let e : l.name.id ≡ i = same_id_eq hx in rw (e, key_at_is i j hj)

    loaded_one_right : (a : Account) (m : RightName) (j : ℕ) → is_right m (loaded_right l a) ≡ true → is_right m (get_or b.rights j free_right) ≡ true → right_room b l.name ≡ Some j
    unfolding loaded_right right_room
    loaded_one_right a m j hx hj = let e : l.name ≡ m = same_name_eq hx in rw (e, right_at_is m j hj)

    loaded_sixteen : length key ≡ key_bytes → Sixteen (key_after b l key)
    unfolding key_after loaded_key
    loaded_sixteen h = if_elim (λ (x : List ℕ). length x ≡ key_bytes) l.flags.key _ _ (λ e. h) (λ e. sixteen (key_at b l.name.id))

    loaded-fair : Fair (loaded_right l (account_by (credit_in l) l (account_before b l.name)))
    unfolding loaded_right
    loaded-fair h = settled-fair l _ (purse_of b l.name) (credit_in l) (load_sort b l pass) (load_within b l pass)

    loaded_sound : length key ≡ key_bytes → Sound z (loaded b l key)
    unfolding loaded key_in right_in at
    loaded_sound long = record {
      key_place_count = length-put _ _ b.keys ∙ s.key_place_count;
      right_place_count = length-put _ _ b.rights ∙ s.right_place_count;
      free_keys = unfold key_after loaded_key in clean_put _ _ _ s.free_keys _ _ (clash refl);
      free_rights = unfold loaded_right in clean_put _ _ _ s.free_rights _ _ (clash refl);
      key-bytes = λ j. put_elim Sixteen _ _ _ b.keys j (λ e. loaded_sixteen long) (s.key-bytes j);
      one_key = unique_put _ _ _ s.one_key _ _ loaded_one_key;
      one_right = unique_put _ _ _ s.one_right _ _ (loaded_one_right _);
      keyed = loaded_keyed;
      fair-rights = λ j. put_elim Fair _ _ _ b.rights j (λ e. loaded-fair) (s.fair-rights j);
      purse_in_limit = unfold purse_of in settled-purse l _ b.purse (credit_in l) s.purse_in_limit (load_within b l pass);
    }

  -- ## A grant

  module _ (m : Message) (pass : Passed (message_refusals b m)) where
    granted_key-held : (key_in b (key_at b m.id)).held ≡ true
    unfolding key_in key_at
    granted_key-held = and_left _ _ (first_sat free_key b.keys (λ k. is_key m.id k) (message_keyed b m pass))

    granted-fair : Fair (charged_right (right_in b (payer b m)))
    unfolding charged_right
    granted-fair h = fair-charged _ _ (fair_in (payer b m) h)

    granted_keyed : (i : KeyId) → missing (key_at (granted b (key_at b m.id) (payer b m) m.ts) i)
        ≡ missing (first (λ r. is_of i r) (granted b (key_at b m.id) (payer b m) m.ts).rights)
    unfolding granted key_at key_in right_in granted_key charged_right
    granted_keyed i =
        ap missing (first-put (λ k. is_key i k) free_key (key_at b m.id) _ b.keys refl)
        ∙ s.keyed i
        ∙ sym (ap missing (first-put (λ r. is_of i r) free_right (payer b m) _ b.rights refl))

    granted_sound : Sound z (granted b (key_at b m.id) (payer b m) m.ts)
    unfolding granted key_in right_in at
    granted_sound = record {
      key_place_count = length-put _ _ b.keys ∙ s.key_place_count;
      right_place_count = length-put _ _ b.rights ∙ s.right_place_count;
      free_keys = unfold granted_key in clean_put _ _ _ s.free_keys _ _ (clash granted_key-held);
      free_rights = unfold charged_right in clean_put _ _ _ s.free_rights _ _ (clash (payer-held b m pass));
      key-bytes = λ j. put_elim Sixteen _ _ _ b.keys j (λ e. unfold granted_key in sixteen (key_at b m.id)) (s.key-bytes j);
      one_key = unfold granted_key in unique_put_same _ _ _ s.one_key is_key-free _ _ (λ i. refl);
      one_right = unfold charged_right in unique_put_same _ _ _ s.one_right is_right-free _ _ (λ n. refl);
      keyed = granted_keyed;
      fair-rights = λ j. put_elim Fair _ _ _ b.rights j (λ e. granted-fair) (s.fair-rights j);
      purse_in_limit = unfold purse_of in spent_within (right_in b (payer b m)).account b.purse purse_limit s.purse_in_limit;
    }

  -- ## Keys and rights that go

  pub cleared : (i m : KeyId) → same_id i m ≡ true → missing (first (λ k. is_key m k) (put (key_at b i) free_key b.keys)) ≡ true
  cleared i m e =
      has_not (λ k. is_key m k) free_key (is_key-free m) _ (λ j.
      put_cases (λ y. is_key m y ≡ false) free_key (key_at b i) free_key b.keys j (is_key-free m) (λ e'. is_key-free m) (at_other j))
    where
      at_other : (j : ℕ) → (key_at b i ≡ Some j → ⊥) → is_key m (get_or b.keys j free_key) ≡ false
      at_other j f = elim (by_test (is_key m (get_or b.keys j free_key))) [ inl h ↦ absurd (f (rw (same_id_eq e) (key_at_is m j h))) | inr h ↦ h ]

  cleared_other : (i m : KeyId) → same_id i m ≡ false → first (λ k. is_key m k) (put (key_at b i) free_key b.keys) ≡ first (λ k. is_key m k) b.keys
  unfolding key_at
  cleared_other i m e =
      first-put-at (λ k. is_key m k) (λ k. is_key i k) free_key (λ y h. is_key-free m ∙ sym (other y.held y.id i m e h)) b.keys

  module _ (i : KeyId) (rest : List Right) (r : Rest z.rights b i rest) where
    left_keyed : (m : KeyId) → missing (key_at (left b i rest) m) ≡ missing (first (λ r. is_of m r) rest)
    unfolding left key_at
    left_keyed m = go (missing (first (λ r. is_of i r) rest)) refl (by_test (same_id i m))
      where
        go : (t : Bool) → missing (first (λ r. is_of i r) rest) ≡ t → (same_id i m ≡ true) ⊎ (same_id i m ≡ false)
            → missing (first (λ k. is_key m k) (if t then put (key_at b i) free_key b.keys else b.keys)) ≡ missing (first (λ r. is_of m r) rest)
        go true q (inl e) = cleared i m e ∙ sym (rw (← (same_id_eq e)) q)
        go false q (inl e) = rw (← (same_id_eq e)) (s.keyed i ∙ r.fewer q ∙ sym q)
        go true q (inr e) = ap missing (cleared_other i m e) ∙ s.keyed m ∙ sym (r.others m e)
        go false q (inr e) = s.keyed m ∙ sym (r.others m e)

    left_sound : Sound z (left b i rest)
    unfolding left key_in right_in at
    left_sound =
        let c = if_elim {A = List Key} in
        let w = put (key_at b i) free_key b.keys in
        let t = missing (first (λ r. is_of i r) rest) in
        record {
          key_place_count = c (λ l. length l ≡ z.keys) t w b.keys (λ e. length-put _ _ b.keys ∙ s.key_place_count) (λ e. s.key_place_count);
          right_place_count = r.long;
          free_keys = c (Clean (λ k. k.held) free_key) t w b.keys (λ e. clean_put _ _ _ s.free_keys _ _ (λ h. refl)) (λ e. s.free_keys);
          free_rights = r.clean;
          key-bytes = λ j. c (λ l. Sixteen (get_or l j free_key)) t w b.keys (λ e. put_elim Sixteen _ _ _ b.keys j (λ e'. free_sixteen) (s.key-bytes j)) (λ e. s.key-bytes j);
          one_key = c (Unique (λ m k. is_key m k) free_key) t w b.keys (λ e. unique_put _ _ _ s.one_key _ _ (λ m j hx. clash hx (is_key-free m))) (λ e. s.one_key);
          one_right = r.one;
          keyed = left_keyed;
          fair-rights = r.fairly;
          purse_in_limit = s.purse_in_limit;
        }

  erased-rest : (i : KeyId) → Rest z.rights b i (put_all (λ r. is_of i r) free_right b.rights)
  unfolding right_in at
  erased-rest i = record {
    long = length-put_all _ _ b.rights ∙ s.right_place_count;
    clean = clean_put_all _ _ _ s.free_rights _;
    one = unique_put_all _ _ _ s.one_right is_right-free _;
    fairly = λ j. put_all_elim Fair _ _ b.rights j free_fair (λ e. s.fair-rights j);
    fewer = fewer_put_all _ free_right (is_of-free i) b.rights _;
    others = λ m e. ap missing (first-put_all (λ r. is_of m r) _ free_right (λ y h. is_of-free m ∙ sym (other y.held y.name.id i m e h)) b.rights);
  }

  dropped-rest : (n : RightName) → Rest z.rights b n.id (put (right_at b n) free_right b.rights)
  unfolding right_at right_in at
  dropped-rest n = record {
    long = length-put _ _ b.rights ∙ s.right_place_count;
    clean = clean_put _ _ _ s.free_rights _ _ (λ h. refl);
    one = unique_put _ _ _ s.one_right _ _ (λ m j hx. clash hx (is_right-free m));
    fairly = λ j. put_elim Fair _ _ _ b.rights j (λ e. free_fair) (s.fair-rights j);
    fewer = fewer_put _ free_right (is_of-free n.id) b.rights _;
    others = λ m e. ap missing (first-put-at (λ r. is_of m r) (λ r. is_right n r) free_right
        (λ y h. is_of-free m ∙ sym (other y.held y.name.id n.id m e (is_right-is_of n y h))) b.rights);
  }

-- ## Calls

-- an empty book of any size
pub blank_sound : (z : Sizes) → Sound z (blank z)
unfolding blank Clean Unique key_at key_in right_in at
blank_sound z = record {
  key_place_count = length-replicate z.keys free_key;
  right_place_count = length-replicate z.rights free_right;
  free_keys = λ j h. get_or-blank z.keys j free_key;
  free_rights = λ j h. get_or-blank z.rights j free_right;
  key-bytes = λ j. rw (get_or-blank z.keys j free_key) free_sixteen;
  one_key = λ n i j h. clash (rw (get_or-blank z.keys i free_key) at h) (is_key-free n);
  one_right = λ n i j h. clash (rw (get_or-blank z.rights i free_right) at h) (is_right-free n);
  keyed = λ i.
      has_not (λ k. is_key i k) free_key (is_key-free i) _ (λ j. rw (get_or-blank z.keys j free_key) (is_key-free i))
      ∙ sym (has_not (λ r. is_of i r) free_right (is_of-free i) _ (λ j. rw (get_or-blank z.rights j free_right) (is_of-free i)));
  fair-rights = λ j. rw (get_or-blank z.rights j free_right) free_fair;
  purse_in_limit = omega arith;
}

done_sound : {z : Sizes} {b : Pages} {u : List ℕ} {x : Seen} {key : List ℕ} {a : After} → Sound z b → length key ≡ key_bytes → Done b u x key a → Sound z a.book
done_sound s k (refused h) = s
done_sound {b} s k (was_loaded o p) = loaded_sound b s _ _ p k
done_sound {b} s k (was_erased o p) = unfold erased in left_sound b s _ _ (erased-rest b s _)
done_sound {b} s k (was_granted p) = unfold grant in granted_sound b s _ p
done_sound s k (was_reported p) = s
done_sound {b} s k (was_dropped p) = unfold dropped in left_sound b s _ _ (dropped-rest b s _)

pub step_sound : {z : Sizes} (b : Pages) → Sound z b → (f : Frame) (key u : List ℕ) → length key ≡ key_bytes → Sound z (step b f key u).book
step_sound b s f key u k = done_sound s k (step_done b f key u)

pub call_sound : {z : Sizes} (b : Pages) → Sound z b → (s u : List ℕ) → Sound z (call b s u).book
call_sound b g s u = done_sound g (key_sixteen s) (call_done b s u)

-- so of every book that comes from the empty one by calls
pub reached_sound : {z : Sizes} {b : Pages} → Reached z b → Sound z b
reached_sound {z} empty = blank_sound z
reached_sound (by_call r s u) = call_sound _ (reached_sound r) s u
