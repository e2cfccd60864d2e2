use Rattle.flight_journal.proofs.FetchLemmas.{flights_are_begun, fetched_once}
use Rattle.flight_journal.proofs.laws.each_key_is_fetched_once.Goals as goal

pub returns : goal.returns
returns c = record { begun = flights_are_begun; once = fetched_once }
