use Rattle.flight_journal.proofs.LegalLemmas.{waits_open, owed_open}
use Rattle.flight_journal.proofs.CountLemmas.{unseen}
use Rattle.flight_journal.proofs.laws.who_awaits_is_open.Goals as goal

pub returns : goal.returns
returns c = record { waits = waits_open; owed = owed_open; unseen = unseen }
