use Rattle.closure_plan.proofs.NeedLemmas.{needs_once}
use Rattle.closure_plan.proofs.laws.needs_are_once.Goals as goal

pub returns : goal.returns
returns c = needs_once
