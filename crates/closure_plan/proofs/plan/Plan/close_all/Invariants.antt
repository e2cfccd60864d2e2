use Rattle.std.proofs.Common.{◌≡◌}
use Rattle.closure_plan.proofs.plan.Plan.close_all.Given as goal

abbrev pub invariant-loop-i : goal.invariant-loop-i
invariant-loop-i g l = l.self ≡ l.initial.self
