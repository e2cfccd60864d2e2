use Rattle.std.proofs.Common.{[]}
use Rattle.closure_request.specs.Request.{root_names_of}
use Rattle.closure_plan.proofs.FreshLemmas.{grows_turned}
use Rattle.closure_plan.proofs.plan.start.roots.Goals as goal

pub returns : goal.returns
returns c = grows_turned [] [] c.in_ok-names.names c.into_names.result.items (root_names_of c.args.specs.now) c.in_ok-names.ensures c.into_names.ensures
