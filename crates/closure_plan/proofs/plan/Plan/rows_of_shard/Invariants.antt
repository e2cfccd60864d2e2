use Rattle.std.proofs.Common.{take, filter, map}
use Rattle.closure_plan.specs.Closure.{found}
use Rattle.closure_plan.specs.Given.{gives}
use Rattle.closure_plan.specs.Rows.{Adds, leaf_or_none}
use Rattle.closure_plan.specs.Plan.{its_leaves}
use Rattle.closure_plan.proofs.plan.Plan.rows_of_shard.Given as goal

abbrev pub invariant-loop-row : goal.invariant-loop-row
invariant-loop-row g l =
    let leaves = its_leaves g.P.PinHolder.contents g.H.LeafHolder.contents l.self.known in
    let leaf = leaf_or_none leaves l.i in
    Adds l.self.known.request leaves l.initial.rows.items l.rows.items (map (found l.self.known.request leaf.slot) (filter (gives l.self.known.request leaf.slot leaf.name leaf.rows) (take l.row leaf.rows)))
