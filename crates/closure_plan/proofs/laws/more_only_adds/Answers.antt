use Rattle.closure_plan.proofs.LawLemmas.{same_wanted, given_stays, reach_grows}
use Rattle.closure_plan.proofs.laws.more_only_adds.Goals as goal

pub returns-clause-wanted : goal.returns-clause-wanted
returns-clause-wanted c = same_wanted

pub returns-clause-given : goal.returns-clause-given
returns-clause-given c = λ r pins more leaves later extends. given_stays r pins more extends leaves later

pub returns-clause-reached : goal.returns-clause-reached
returns-clause-reached c = λ r pins more leaves later extends. reach_grows r pins more extends leaves later
