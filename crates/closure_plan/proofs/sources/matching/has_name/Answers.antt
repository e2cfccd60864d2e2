use Rattle.std.proofs.Common.{◌∙◌, ap}
use Rattle.conda_name.specs.Name.{lower_case}
use Rattle.closure_plan.specs.Names.{is_name}
use Rattle.closure_plan.proofs.FreshLemmas.{lower_is}
use Rattle.closure_plan.proofs.sources.matching.has_name.Goals as goal

pub returns : goal.returns
returns c = lower_is c.same_name.result _ _ c.same_name.ensures.exact ∙ ap (λ x. is_name c.args.name.now (lower_case x)) c.name.ensures
