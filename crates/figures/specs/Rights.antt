-- One right: a free place, the tests of look-ups, fitting a message, and what a grant leaves.
use Rattle.std.specs.Prelude.{Bool, false, ◌&&◌, if◌then◌else◌}
use Rattle.std.specs.Bool.{beq}
use Rattle.figures.specs.Limits.{no_spe}
use Rattle.figures.specs.Types.{Timestamp, KeyId, RightName, Counted, Right, Message}
use Rattle.figures.specs.Names.{same_id, same_name, no_id, covers, live}
use Rattle.figures.specs.Policies.{is_live}
use Rattle.figures.specs.Accounts.{charged}

-- 01, Rights: a free place always holds the same
unfoldable pub free_right : Right
free_right =
    record {
      held = false;
      name = record { id = no_id; interval = record { low = record { 0 = 0 }; high = record { 0 = 0 } }; spe = no_spe };
      account = Counted (record { 0 = 0 });
    }

-- 01, Rights: the right of a name
abbrev pub is_right : RightName → Right → Bool
is_right n r = r.held && same_name r.name n

-- 01, What a load does: a right of an ID
abbrev pub is_of : KeyId → Right → Bool
is_of i r = r.held && same_id r.name.id i

-- 01, What a short term message does: it has the message's ID, covers its TS, and is live or playback as the message is
unfoldable pub fits : Message → Timestamp → Right → Bool
fits m replay r =
    is_of m.id r && covers r.name.interval m.ts && beq (is_live r.name.spe) (live replay m.ts)

-- 01, What a short term message does: the right is charged, and stays held
unfoldable pub charged_right : Right → Right
charged_right r = record { held = r.held; name = r.name; account = charged r.account }

-- 01, What a load does: 0A removes all rights of the ID
unfoldable pub unless_of : KeyId → Right → Right
unless_of i r = if is_of i r then free_right else r
