use Rattle.closure_worlds.proofs.MarkedLemmas.{marked_now}
use Rattle.closure_worlds.proofs.arrival.step.Goals as goal

pub take_in-requires : goal.take_in-requires
take_in-requires c = marked_now _ _ _ c.mark-in-Some-next.ensures
