-- What holds of every book that comes from the empty one by calls: 01, Rights.
use Rattle.std.specs.Prelude.{ℕ, ◌≤◌, ◌≡◌, Bool, true, ◌&&◌, List, length, leb}
use Rattle.places.specs.Words.{first, missing, Unique, Clean}
use Rattle.figures.specs.Limits.{key_bytes, purse_limit}
use Rattle.figures.specs.Policies.{is_counted, is_purse, count_limit}
use Rattle.figures.specs.Keys.{free_key, is_key}
use Rattle.figures.specs.Rights.{free_right, is_right, is_of}
use Rattle.rules.specs.Types.{Some, KeyId, Account, Counted, Purse}
use Rattle.rules.specs.Pages.{Pages, Sizes, blank, key_at, key_in, right_in}
use Rattle.rules.specs.Rules.{call}

-- 01, Rights, the table: the account is of the SPE's sort, and a counter within its limit
unfoldable pub fair : ℕ → Account → Bool
fair s (Counted left) = is_counted s && leb left.0 (count_limit s).0
fair s (Purse cost) = is_purse s

-- of a book with so many places
pub record Sound (z : Sizes) (b : Pages) : Type 0 where
  -- the book has its key places and its right places
  pub key_place_count : length b.keys ≡ z.keys
  pub right_place_count : length b.rights ≡ z.rights
  -- a free place always holds the same as in an empty book, key bytes zero
  pub free_keys : Clean (λ k. k.held) free_key b.keys
  pub free_rights : Clean (λ r. r.held) free_right b.rights
  -- a key has its sixteen bytes
  pub key-bytes : (j : ℕ) → length (key_in b (Some j)).bytes ≡ key_bytes
  -- no two keys share an ID, no two rights a name
  pub one_key : Unique (λ i k. is_key i k) free_key b.keys
  pub one_right : Unique (λ n r. is_right n r) free_right b.rights
  -- a held key always has at least one right, and a right its key
  pub keyed : (i : KeyId) → missing (key_at b i) ≡ missing (first (λ r. is_of i r) b.rights)
  -- a held right has an account: either a count of traffic keys left, or a cost in tokens
  pub fair-rights : (j : ℕ) → (right_in b (Some j)).held ≡ true → fair (right_in b (Some j)).name.spe (right_in b (Some j)).account ≡ true
  -- the purse is within its limit
  pub purse_in_limit : b.purse.0 ≤ purse_limit

-- 01, How tight the promises are: a book comes only from the empty one by calls
pub data Reached (z : Sizes) : Pages → Type 0 where
  empty : Reached z (blank z)
  by_call : {b : Pages} → Reached z b → (s u : List ℕ) → Reached z (call b s u).book
