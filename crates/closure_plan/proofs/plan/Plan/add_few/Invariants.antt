use Rattle.std.proofs.Common.{take, flat_map}
use Rattle.conda_record.specs.View.{seen}
use Rattle.closure_plan.specs.Given.{names_of_text}
use Rattle.closure_plan.specs.Fresh.{Grows}
use Rattle.closure_plan.proofs.plan.Plan.add_few.Given as goal

abbrev pub invariant-loop-i : goal.invariant-loop-i
invariant-loop-i g l = Grows l.self.known.names l.initial.fresh l.fresh (flat_map names_of_text (take l.i (seen l.view).depends))
