use Rattle.closure_plan.proofs.LawLemmas.{end_done, next_askable}
use Rattle.closure_plan.proofs.laws.the_end_is_done.Goals as goal

pub returns : goal.returns
returns c = record { done = end_done; next = next_askable }
