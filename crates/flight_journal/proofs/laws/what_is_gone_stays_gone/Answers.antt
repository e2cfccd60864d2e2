use Rattle.flight_journal.proofs.CarryLemmas.{gone_stays, lost_goes}
use Rattle.flight_journal.proofs.laws.what_is_gone_stays_gone.Goals as goal

pub returns : goal.returns
returns c = record { gone = gone_stays; lost = lost_goes }
