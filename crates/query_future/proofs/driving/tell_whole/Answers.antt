use Rattle.std.proofs.Common.{◌≡◌}
use Rattle.query_future.proofs.HandLemmas.{each_given}
use Rattle.query_future.proofs.driving.tell_whole.Goals as goal

pub returns-in-Going : goal.returns-in-Going
returns-in-Going g c = rw c.in-Going.is (c.tell.ensures.reached, each_given c.in-Going.plan.known (rw c.in-Going.is at c.requires) c.tell_needs.ensures.are)
