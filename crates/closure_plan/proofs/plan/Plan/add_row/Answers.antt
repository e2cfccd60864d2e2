use Rattle.std.proofs.Common.{flat_map}
use Rattle.conda_record.specs.View.{seen}
use Rattle.closure_plan.specs.Given.{names_of_text}
use Rattle.closure_plan.proofs.FreshLemmas.{added_there}
use Rattle.closure_plan.proofs.plan.Plan.add_row.Goals as goal

pub returns-in_ok-add_deps-in-Some-clause-there : goal.returns-in_ok-add_deps-in-Some-clause-there
returns-in_ok-add_deps-in-Some-clause-there g c = added_there c.args.self.now.known.names c.args.fresh.now c.add_deps.new.fresh (flat_map names_of_text (seen c.in-Some.row.view).depends) c.in_ok-add_deps-in-Some.ensures
