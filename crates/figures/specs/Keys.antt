-- One key: a free place, the tests of look-ups, and what a load or a grant leaves.
use Rattle.std.specs.Prelude.{ℕ, Bool, true, false, ◌&&◌, List, replicate, if◌then◌else◌}
use Rattle.figures.specs.Limits.{key_bytes}
use Rattle.figures.specs.Types.{Timestamp, KeyId, Key}
use Rattle.figures.specs.Names.{same_id, no_id, live}

-- sixteen zero bytes
abbrev pub zeros : List ℕ
zeros = replicate key_bytes 0

-- 01, Rights: a free place always holds the same, key bytes zero
unfoldable pub free_key : Key
free_key = record { held = false; id = no_id; replay = record { 0 = 0 }; bytes = zeros }

-- 01, Rights: a held key has its ID
abbrev pub is_key : KeyId → Key → Bool
is_key i k = k.held && same_id k.id i

-- 01, What a short term message does: a live grant sets the replay counter to TS, a playback grant leaves it
unfoldable pub granted_key : Timestamp → Key → Key
granted_key ts k = record { held = k.held; id = k.id; replay = if live k.replay ts then ts else k.replay; bytes = k.bytes }

-- 01, What a load does: if the frame carries a key, it replaces the key of that ID
unfoldable pub loaded_key : KeyId → Bool → List ℕ → Key → Key
loaded_key i carried key k = record { held = true; id = i; replay = k.replay; bytes = if carried then key else k.bytes }
