-- The words of the round trips.
use Rattle.std.specs.Prelude.{ℕ, ◌<◌, ◌^◌, List, [], ◌∷◌, ◌++◌, length, drop, ltb, if◌then◌else◌}
use Rattle.std.specs.List.{All}
use Rattle.figures.specs.Keys.{zeros}
use Rattle.frames.specs.Types.{Frame, ReadFrame, Seen, Ok, Err}
use Rattle.frames.specs.Layouts.{widths_of, has_key}
use Rattle.frames.specs.Reading.{is_load, is_message, is_right, seen, key_beside}
use Rattle.frames.specs.Writing.{numbers_of, written_as, Writing, outcome, unwritten, writing}

-- a byte
abbrev pub IsByte : ℕ → Type 0
IsByte b = b < 256

-- every element is a byte
abbrev pub Bytes : List ℕ → Type 0
Bytes s = All IsByte s

-- each number fits its width, and there are as many of each
abbrev pub Fit : List ℕ → List ℕ → Type 0
Fit [] [] = Unit {0}
Fit [] (x ∷ xs) = ⊥
Fit (w ∷ ws) [] = ⊥
Fit (w ∷ ws) (x ∷ xs) = (x < 256 ^ w) × Fit ws xs

-- every number of a frame fits its place
abbrev pub Fits : Frame → Type 0
Fits f = Fit (widths_of f) (numbers_of f)

-- a frame, and the key bytes beside it
abbrev pub with_key : Frame → List ℕ → ReadFrame
with_key f k = record { frame = Ok f; key = k }

-- 01, Frames: reading back returns the key, and zeros where no key is present
abbrev pub key_back : Frame → List ℕ → List ℕ
key_back f k = if has_key f then k else zeros

-- a string that reads as a frame is written again as it stood, where the buffer has room for it
abbrev pub copied : Seen → List ℕ → List ℕ → Writing
copied (Ok f) s u = if ltb (length u) (length s) then unwritten u else outcome (Ok (length s)) (s ++ drop (length s) u)
copied (Err r) s u = outcome (Err r) u

-- what reading a string and writing what was read leaves
unfoldable pub copying : List ℕ → List ℕ → Writing
copying s u = copied (seen s) s u

-- `unfolding all_frames` opens every definition of this crate that is shut
unfoldable pub all_frames : Type 0
unfolding is_load is_message is_right seen key_beside written_as writing copying
all_frames = Unit {0}
