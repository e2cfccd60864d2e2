use Rattle.std.proofs.Common.{◌≡◌, take, map}
use Rattle.conda_record.specs.View.{seen}
use Rattle.closure_plan.proofs.plan.names.texts_of.Given as goal

abbrev pub invariant-loop-i : goal.invariant-loop-i
invariant-loop-i l = map (λ t. t.now) l.texts.items ≡ take l.i (seen l.view).depends
