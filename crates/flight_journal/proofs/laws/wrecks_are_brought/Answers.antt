use Rattle.flight_journal.proofs.WreckLemmas.{wrecked_after, wrecks_brought, wrecks_counted}
use Rattle.flight_journal.proofs.laws.wrecks_are_brought.Goals as goal

pub returns : goal.returns
returns c = record { wreck = wrecked_after; brought = wrecks_brought; counted = wrecks_counted }
