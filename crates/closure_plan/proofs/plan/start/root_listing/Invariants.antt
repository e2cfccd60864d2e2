use Rattle.std.proofs.Common.{take, []}
use Rattle.closure_request.specs.Request.{root_names_of}
use Rattle.closure_plan.specs.Fresh.{Grows}
use Rattle.closure_plan.proofs.plan.start.root_listing.Given as goal

abbrev pub invariant-loop-spec : goal.invariant-loop-spec
invariant-loop-spec l = Grows [] [] l.names (root_names_of (take l.spec-index l.specs))
