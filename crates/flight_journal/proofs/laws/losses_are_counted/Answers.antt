use Rattle.flight_journal.proofs.LossLemmas.{losses_counted}
use Rattle.flight_journal.proofs.laws.losses_are_counted.Goals as goal

pub returns : goal.returns
returns c = losses_counted
