use Rattle.closure_plan.proofs.FillLemmas.{next_can_be_marked}
use Rattle.closure_plan.proofs.laws.the_next_can_be_marked.Goals as goal

pub returns : goal.returns
returns g c = next_can_be_marked g.P.PinHolder.contents g.H.LeafHolder.contents
