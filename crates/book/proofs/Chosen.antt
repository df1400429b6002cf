-- What the walk over the rights, in its two parts, tells of the rules' two searches. Assumes nothing.
use Prim.Native.Nat.{ℕ, zero, suc, ◌+◌}
use native.Mathlib.Omega.{arith}
use mathlib.Core.Path.{◌≡◌, refl, sym, ap, ◌∙◌}
use mathlib.Core.Bool.{Bool, true, false, ◌&&◌}
use mathlib.Core.List.{List, [], ◌∷◌}
use lib.ListN.{get_or, drop}
use Rattle.std.specs.Prelude.{option_map, if◌then◌else◌}
use Rattle.places.specs.Words.{first, next}
use Rattle.places.proofs.Walks.{past_zero, past_next}
use Rattle.figures.specs.Accounts.{can_pay}
use Rattle.figures.specs.Rights.{fits}
use Rattle.rules.specs.Pages.{Pages, key_at, purse_of}
use Rattle.rules.specs.Messages.{fitting, paying, payer}
use Rattle.rules.proofs.InPlace.{replay_in}
use Rattle.book.specs.Types.{Option, Some, None, Key, Right, Timestamp, Message}
use Rattle.book.specs.Choices.{pays, payer_from}

-- ## A search that goes on from where a weaker one stopped

module _ {A : Type 0} (p q : A → Bool) where
  moved : (i : ℕ) (w : Option ℕ) → option_map (λ j. suc i + j) w ≡ next (option_map (λ j. i + j) w)
  moved i (Some j) = ap Some (omega arith)
  moved i None = refl

  tail_of : (w : Option ℕ) (i : ℕ) → next w ≡ Some (suc i) → w ≡ Some i
  tail_of (Some j) i e = let s : suc j ≡ suc i = cc in ap Some (omega arith)
  tail_of None i e = cc

  -- what is one place further is not in place 0
  never : (w : Option ℕ) → next w ≡ Some 0 → ⊥
  never (Some j) e = cc
  never None e = cc

  further : (i : ℕ) (t : Bool) (w : Option ℕ)
      → next (if t then Some i else option_map (λ j. suc i + j) w) ≡ (if t then Some (suc i) else option_map (λ j. suc (suc i) + j) w)
  further i true w = refl
  further i false w = sym (moved (suc i) w)

  -- where q passes only what p passes, the first that q passes is not before the first that p passes
  pub first_on : (l : List A) (i : ℕ) → first p l ≡ Some i → option_map (λ j. i + j) (first (λ x. p x && q x) (drop i l)) ≡ first (λ x. p x && q x) l
  unfolding first
  first_on [] i e = cc
  first_on (x ∷ xs) zero e = past_zero _
  first_on (x ∷ xs) (suc i) e = go (p x) (λ f. first_on xs i f) e
    where
      go : (t : Bool) → (first p xs ≡ Some i → option_map (λ j. i + j) (first (λ x. p x && q x) (drop i xs)) ≡ first (λ x. p x && q x) xs)
          → (if t then Some 0 else next (first p xs)) ≡ Some (suc i)
          → option_map (λ j. suc i + j) (first (λ x. p x && q x) (drop i xs)) ≡ (if t && q x then Some 0 else next (first (λ x. p x && q x) xs))
      go true h e = cc
      go false h e = moved i _ ∙ ap next (h (tail_of _ i e))

  -- what stands in that place is asked first, and then what comes behind it
  pub first_behind : (l : List A) (i : ℕ) (d : A) → first p l ≡ Some i
      → option_map (λ j. i + j) (first (λ x. p x && q x) (drop i l))
      ≡ (if q (get_or l i d) then Some i else option_map (λ j. suc i + j) (first (λ x. p x && q x) (drop (suc i) l)))
  unfolding first
  first_behind [] i d e = cc
  first_behind (x ∷ xs) zero d e = go (p x) (q x) e
    where
      go : (t s : Bool) → (if t then Some 0 else next (first p xs)) ≡ Some 0
          → option_map (λ j. 0 + j) (if t && s then Some 0 else next (first (λ x. p x && q x) xs))
          ≡ (if s then Some 0 else option_map (λ j. 1 + j) (first (λ x. p x && q x) xs))
      go true true e = refl
      go true false e = sym (past_next 0 (first (λ x. p x && q x) xs))
      go false s e = absurd (never (first p xs) e)
  first_behind (x ∷ xs) (suc i) d e = go (p x) (λ f. first_behind xs i d f) e
    where
      go : (t : Bool)
          → (first p xs ≡ Some i → option_map (λ j. i + j) (first (λ x. p x && q x) (drop i xs))
          ≡ (if q (get_or xs i d) then Some i else option_map (λ j. suc i + j) (first (λ x. p x && q x) (drop (suc i) xs))))
          → (if t then Some 0 else next (first p xs)) ≡ Some (suc i)
          → option_map (λ j. suc i + j) (first (λ x. p x && q x) (drop i xs))
          ≡ (if q (get_or xs i d) then Some (suc i) else option_map (λ j. suc (suc i) + j) (first (λ x. p x && q x) (drop (suc i) xs)))
      go true h e = cc
      go false h e = moved i _ ∙ ap next (h (tail_of _ i e)) ∙ further i (q (get_or xs i d)) (first (λ x. p x && q x) (drop (suc i) xs))

-- ## The two parts of the walk, by the replay counter of the key in place k, where the ID was found

module _ (b : Pages) (m : Message) (k : ℕ) (e : Key) (found : key_at b m.id ≡ Some k) where
  pub fitting_found : first (λ r. fits m (get_or b.keys k e).replay r) b.rights ≡ first (λ r. fitting b m r) b.rights
  unfolding fitting
  fitting_found = ap (λ (t : Timestamp). first (λ r. fits m t r) b.rights) (replay_in b m.id k e found)

  pub payer_found : (i : ℕ) → first (λ r. fitting b m r) b.rights ≡ Some i → payer_from i m (get_or b.keys k e).replay b.purse b.rights ≡ payer b m
  unfolding payer_from payer paying fitting purse_of
  payer_found i f =
      ap (λ (t : Timestamp). option_map (λ j. i + j) (first (λ r. pays m t b.purse r) (drop i b.rights))) (replay_in b m.id k e found)
      ∙ first_on (λ r. fitting b m r) (λ (r : Right). can_pay b.purse r.account) b.rights i f
