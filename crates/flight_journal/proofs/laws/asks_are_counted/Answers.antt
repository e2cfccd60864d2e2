use Rattle.flight_journal.proofs.CountLemmas.{asks_counted, no_losses}
use Rattle.flight_journal.proofs.laws.asks_are_counted.Goals as goal

pub returns : goal.returns
returns c = record { asks = asks_counted; losses = no_losses }
