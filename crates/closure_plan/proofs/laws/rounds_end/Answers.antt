use Rattle.closure_plan.proofs.RoundLemmas.{rounds_grow}
use Rattle.closure_plan.proofs.LawLemmas.{nothing_added, reach_least}
use Rattle.closure_plan.proofs.laws.rounds_end.Goals as goal

pub returns-clause-grow : goal.returns-clause-grow
returns-clause-grow c = λ next k names q i. rounds_grow next k names q i

pub returns-clause-nothing_added : goal.returns-clause-nothing_added
returns-clause-nothing_added c = nothing_added

pub returns-clause-least : goal.returns-clause-least
returns-clause-least c = reach_least
