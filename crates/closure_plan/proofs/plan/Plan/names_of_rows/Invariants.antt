use Rattle.std.proofs.Common.{take, filter, flat_map, []}
use Rattle.std.specs.Option.{IfSome}
use Rattle.conda_record.specs.View.{seen}
use Rattle.closure_plan.specs.Given.{gives, deps_of, names_of_text}
use Rattle.closure_plan.specs.Fresh.{AreThere, Grows}
use Rattle.closure_plan.proofs.plan.Plan.names_of_rows.Given as goal

abbrev pub invariant-loop-i : goal.invariant-loop-i
invariant-loop-i g l =
    Grows l.self.known.names [] l.fresh (flat_map deps_of (filter (gives l.self.known.request l.slot l.name l.shard.rows) (take l.i l.shard.rows)))
    × IfSome l.before (λ v. AreThere l.self.known.names l.fresh (flat_map names_of_text (seen v).depends))
