use Rattle.closure_plan.proofs.LawLemmas.{given_in_closure, closure_given}
use Rattle.closure_plan.proofs.laws.closure_is_what_is_given.Goals as goal

pub returns-clause-given : goal.returns-clause-given
returns-clause-given c = given_in_closure

pub returns-clause-only : goal.returns-clause-only
returns-clause-only c = closure_given
