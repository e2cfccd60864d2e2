use Rattle.flight_journal.specs.State.{nothing}
use Rattle.flight_journal.proofs.CountLemmas.{calls_stay, losses_stay, asks_stay, wrecks_stay}
use Rattle.flight_journal.proofs.laws.counts_of_others_stay.Goals as goal

pub returns : goal.returns
returns c = record {
  calls = calls_stay;
  losses = losses_stay;
  asks = λ q. asks_stay q nothing;
  wrecks = λ q. wrecks_stay q nothing;
}
