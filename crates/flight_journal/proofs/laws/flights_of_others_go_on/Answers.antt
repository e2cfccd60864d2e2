use Rattle.flight_journal.proofs.CarryLemmas.{carried, none_new, open_stays}
use Rattle.flight_journal.proofs.laws.flights_of_others_go_on.Goals as goal

pub returns : goal.returns
returns c = record { flights = carried; fresh = none_new; live = open_stays }
