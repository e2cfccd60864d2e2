use Rattle.flight_journal.proofs.LegalLemmas.{one_key_after, kept_apart, sized_after}
use Rattle.flight_journal.proofs.laws.each_key_has_one_flight.Goals as goal

pub returns : goal.returns
returns c = record { one = one_key_after; kept = kept_apart; sized = sized_after }
