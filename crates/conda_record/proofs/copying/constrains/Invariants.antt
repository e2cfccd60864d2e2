use Rattle.std.proofs.Common.{◌≡◌, take}
use Rattle.conda_record.specs.View.{seen}
use Rattle.conda_record.proofs.copying.constrains.Given as goal

-- the texts so far are the first ones
abbrev pub invariant-loop-i : goal.invariant-loop-i
invariant-loop-i l = l.texts.items ≡ take l.i (seen l.view).constrains
