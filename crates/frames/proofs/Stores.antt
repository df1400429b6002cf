-- Laws of runs of stores. Assumes nothing.
use mathlib.Core.Path.{◌≡◌}
use mathlib.Core.List.{List, [], ◌∷◌, ◌++◌}
use Prim.Native.Nat.{ℕ, suc, ◌+◌, ◌≤◌}
use native.Mathlib.Nat.{add-zero, add-suc, suc-add, zero-add}
use native.Mathlib.Omega.{arith}
use lib.ListN.{length, drop, set}
use lib.Seq.{sets, sets-eq}

-- one more store after a run of stores
pub sets-snoc : (vs l : List ℕ) (i : ℕ) (a : ℕ) → set (sets l i vs) (i + length vs) a ≡ sets l i (vs ++ (a ∷ []))
sets-snoc [] l i a = rw add-zero
sets-snoc (v ∷ vs) l i a = rw (add-suc, ← suc-add) (sets-snoc vs (set l i v) (suc i) a)

-- a run of stores from the front on is the stored list, and what comes after it as found
pub sets_front : (vs l : List ℕ) → length vs ≤ length l → sets l 0 vs ≡ vs ++ drop (length vs) l
sets_front vs l h = rw zero-add at (sets-eq vs l 0 (omega arith))
