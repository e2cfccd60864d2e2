use Rattle.std.proofs.Common.{◌≡◌, ◌≤◌, ◌<◌, ◌^◌, length}
use Rattle.mp_codec.specs.Reading.{values_from}
use Rattle.mp_codec.proofs.cursor.Cursor.behind_value.Given as goal

-- what is owed from here on is what one value is from the start
abbrev pub invariant-loop-owed : goal.invariant-loop-owed
invariant-loop-owed l =
    (values_from l.owed l.ahead ≡ values_from 1 l.self)
    × (length l.ahead.left ≤ length l.self.left)
    × (length l.self.left < 2 ^ 64)

abbrev pub decreases-loop-owed : goal.decreases-loop-owed
decreases-loop-owed l = length l.ahead.left
