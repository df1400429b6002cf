-- Nothing but stored key bytes depends on key bytes: `blind` goes through every rule. Assumes nothing.
use Prim.Native.Nat.{ℕ}
use mathlib.Core.Path.{◌≡◌, refl, ap, ◌∙◌}
use mathlib.Core.Bool.{Bool, true, false}
use mathlib.Core.List.{List, [], ◌∷◌, map}
use lib.ListN.{length}
use Rattle.std.specs.Prelude.{if◌then◌else◌}
use Rattle.places.proofs.Lists.{first-map, put_map, at_map, if_map, if_same}
use Rattle.figures.specs.Policies.{is_deletion}
use Rattle.figures.specs.Keys.{zeros, free_key, is_key, granted_key, loaded_key}
use Rattle.frames.specs.Reading.{reading}
use Rattle.rules.specs.Pages.{Pages, key_at, right_at, key_in, right_in, free_key_at, free_right_at, key_room, right_room, purse_of, user_purse, as_held}
use Rattle.rules.specs.Calls.{After, Check, unless}
use Rattle.rules.specs.Loads.{loadable, account_before, over_limit, over_reply, load_refusals, key_after, loaded, store}
use Rattle.rules.specs.Deletions.{left, report_refusals, report, dropped, delete_refusals, delete, erased, erase_refusals, erase}
use Rattle.rules.specs.Messages.{replay_of, fitting, paying, payer, message_refusals, granted, grant, message}
use Rattle.rules.specs.Rules.{load, act, buffer_refusals, taken, call}
use Rattle.demands.specs.Types.{Option, Timestamp, KeyId, RightName, Right, Key, Load, Message, Reply, Frame, LoadFrame, MessageFrame, ReportFrame, DeleteFrame, Seen, Ok, Err}
use Rattle.demands.specs.Demand3.{blind_key, blind}

map-map-blind : (l : List Key) → map blind_key (map blind_key l) ≡ map blind_key l
map-map-blind [] = refl
map-map-blind (k ∷ ks) = ap (λ (l : List Key). blind_key k ∷ l) (map-map-blind ks)

module _ (b : Pages) where
  blind-blind : blind (blind b) ≡ blind b
  unfolding blind
  blind-blind = rw (map-map-blind b.keys)

  key_at-blind : (i : KeyId) → key_at (blind b) i ≡ key_at b i
  unfolding key_at blind
  key_at-blind i = first-map blind_key (λ k. is_key i k) b.keys

  key_in-blind : (k : Option ℕ) → key_in (blind b) k ≡ blind_key (key_in b k)
  unfolding key_in blind free_key
  key_in-blind k = at_map blind_key free_key k b.keys

  key_room-blind : (i : KeyId) → key_room (blind b) i ≡ key_room b i
  unfolding key_room free_key_at blind
  key_room-blind i = simp (key_at-blind, first-map)

  right_room-blind : (n : RightName) → right_room (blind b) n ≡ right_room b n
  unfolding right_room right_at free_right_at blind
  right_room-blind n = refl

  as_held-blind : (k r : Option ℕ) → as_held (blind b) k r ≡ as_held b k r
  unfolding as_held right_in purse_of blind
  as_held-blind k r = simp key_in-blind

  over_reply-blind : (n : RightName) → over_reply (blind b) n ≡ over_reply b n
  unfolding over_reply right_at user_purse blind
  over_reply-blind n = simp (key_at-blind, as_held-blind)

  -- ## What is left of a book

  left-blind : (i : KeyId) (rest : List Right) → left (blind b) i rest ≡ blind (left b i rest)
  unfolding left blind free_key
  left-blind i rest = simp (key_at-blind, put_map blind_key (key_at b i) free_key, if_map (map blind_key))

  erased-blind : (i : KeyId) → erased (blind b) i ≡ blind (erased b i)
  unfolding erased blind
  erased-blind i = left-blind i _

  dropped-blind : (n : RightName) → dropped (blind b) n ≡ blind (dropped b n)
  unfolding dropped blind right_at
  dropped-blind n = left-blind n.id _

  replay_of-blind : (i : KeyId) → replay_of (blind b) i ≡ replay_of b i
  unfolding replay_of
  replay_of-blind i = ap (λ (k : Key). k.replay) (ap (key_in (blind b)) (key_at-blind i) ∙ key_in-blind (key_at b i))

  fitting-blind : (m : Message) (r : Right) → fitting (blind b) m r ≡ fitting b m r
  unfolding fitting
  fitting-blind m r = simp replay_of-blind

  paying-blind : (m : Message) (r : Right) → paying (blind b) m r ≡ paying b m r
  unfolding paying purse_of blind
  paying-blind m r = simp fitting-blind

  payer-blind : (m : Message) → payer (blind b) m ≡ payer b m
  unfolding payer blind
  payer-blind m = simp paying-blind

  granted-blind : (k r : Option ℕ) (ts : Timestamp) → granted (blind b) k r ts ≡ blind (granted b k r ts)
  unfolding granted granted_key right_in purse_of blind
  granted-blind k r ts = simp (key_in-blind, put_map blind_key k (granted_key ts (key_in b k)))

  key_after-blind : (l : Load) (key : List ℕ) → key_after (blind b) l zeros ≡ blind_key (key_after b l key)
  unfolding key_after loaded_key
  key_after-blind l key = simp (key_at-blind, key_in-blind, if_same)

  loaded_blind : (l : Load) (key : List ℕ) → loaded (blind b) l zeros ≡ blind (loaded b l key)
  unfolding loaded blind account_before right_in right_at right_room free_right_at purse_of
  loaded_blind l key = simp (key_room-blind, key_after-blind l key, put_map blind_key (key_room b l.name.id) (key_after b l key))

-- what may be known of a call: the book but for key bytes, and the reply
pub record Shows : Type 0 where
  pub book : Pages
  pub reply : Reply

unfoldable pub shows : After → Shows
shows a = record { book = blind a.book; reply = a.reply }

done_shows : (b : Pages) (u v : List ℕ) {r s : Reply} → r ≡ s
    → shows (record { book = b; reply = r; buffer = u }) ≡ shows (record { book = blind b; reply = s; buffer = v })
unfolding shows
done_shows b u v h = rw (blind-blind b, h)

if_shows : (t : Bool) (x y x' y' : After) → shows x ≡ shows x' → shows y ≡ shows y' → shows (if t then x else y) ≡ shows (if t then x' else y')
if_shows true x y x' y' p q = p
if_shows false x y x' y' p q = q

unless-shows : (b : Pages) (u v : List ℕ) (cs : List Check) (d e : After) → shows d ≡ shows e → shows (unless b u cs d) ≡ shows (unless (blind b) v cs e)
unfolding unless shows
unless-shows b u v [] d e h = h
unless-shows b u v (c ∷ cs) d e h = if_shows c.test _ _ _ _ (rw (blind-blind b)) (unless-shows b u v cs d e h)

module _ (b : Pages) where
  load_refusals-blind : (l : Load) → load_refusals (blind b) l ≡ load_refusals b l
  unfolding load_refusals blind loadable right_room right_at free_right_at over_limit account_before right_in purse_of
  load_refusals-blind l = simp (key_at-blind b, key_room-blind b, over_reply-blind b)

  erase_refusals-blind : (l : Load) → erase_refusals (blind b) l ≡ erase_refusals b l
  unfolding erase_refusals
  erase_refusals-blind l = simp (key_at-blind b)

  message_refusals-blind : (m : Message) → message_refusals (blind b) m ≡ message_refusals b m
  unfolding message_refusals blind
  message_refusals-blind m = simp (key_at-blind b, fitting-blind b, paying-blind b)

module _ (b : Pages) (u v : List ℕ) where
  store-shows : (l : Load) (key : List ℕ) → shows (store b u l key) ≡ shows (store (blind b) v l zeros)
  unfolding store
  store-shows l key =
      rw (load_refusals-blind b l, loaded_blind b l key)
      (unless-shows b u v _ _ _ (done_shows _ u v (simp (key_room-blind b, right_room-blind b, as_held-blind (loaded b l key)))))

  erase-shows : (l : Load) → shows (erase b u l) ≡ shows (erase (blind b) v l)
  unfolding erase user_purse blind
  erase-shows l = rw (erase_refusals-blind b, erased-blind b) (unless-shows b u v _ _ _ (done_shows _ u v refl))

  message-shows : (m : Message) → shows (message b u m) ≡ shows (message (blind b) v m)
  unfolding message grant
  message-shows m =
      rw (message_refusals-blind b, key_at-blind b, payer-blind b, granted-blind b)
      (unless-shows b u v _ _ _ (done_shows _ _ _ (simp (as_held-blind (granted b (key_at b m.id) (payer b m) m.ts)))))

  report-shows : (n : RightName) → shows (report b u n) ≡ shows (report (blind b) v n)
  unfolding report report_refusals blind right_at
  report-shows n = unless-shows b u v _ _ _ (done_shows _ u v (simp (key_at-blind b, as_held-blind b)))

  delete-shows : (n : RightName) → shows (delete b u n) ≡ shows (delete (blind b) v n)
  unfolding delete delete_refusals report_refusals blind right_at user_purse
  delete-shows n = rw (dropped-blind b n) (unless-shows b u v _ _ _ (done_shows _ u v refl))

  act-shows : (f : Frame) (key : List ℕ) → shows (act b u f key) ≡ shows (act (blind b) v f zeros)
  unfolding act load
  act-shows (LoadFrame l) key = if_shows (is_deletion l.name.spe) _ _ _ _ (erase-shows l) (store-shows l key)
  act-shows (MessageFrame m) key = message-shows m
  act-shows (ReportFrame n) key = report-shows n
  act-shows (DeleteFrame n) key = delete-shows n

  taken-shows : (f : Seen) (key : List ℕ) → shows (taken b u f key) ≡ shows (taken (blind b) v f zeros)
  unfolding taken
  taken-shows (Ok f) key = act-shows f key
  taken-shows (Err r) key = done_shows b u v refl

  -- a call shows nothing but what it would show with no key bytes at all, in the book and in the frame
  pub call-shows : (s : List ℕ) → length u ≡ length v
      → shows (call b s u) ≡ shows (unless (blind b) v (buffer_refusals v) (taken (blind b) v (reading s).frame zeros))
  unfolding call buffer_refusals
  call-shows s h = rw (← h) (unless-shows b u v _ _ _ (taken-shows (reading s).frame (reading s).key))
