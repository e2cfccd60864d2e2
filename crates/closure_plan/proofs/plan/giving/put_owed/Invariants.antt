use Rattle.std.proofs.Common.{◌≤◌, ◌+◌, length}
use Rattle.std.specs.Prelude.{vec_capacity}
use Rattle.closure_plan.specs.Owing.{Owes}
use Rattle.closure_plan.specs.Plan.{pins_of}
use Rattle.closure_plan.proofs.plan.giving.put_owed.Given as goal

abbrev pub invariant-loop-n : goal.invariant-loop-n
invariant-loop-n g l =
    Owes l.sources.request (pins_of g.P.PinHolder.contents l.sources.pins) l.names l.from l.n l.initial.owing.items l.owing.items
    × (length l.owing.items + length l.names ≤ l.n + vec_capacity l.owing)
