use Rattle.std.proofs.Common.{refl}
use Rattle.flight_journal.specs.Journal.{after_from}
use Rattle.flight_journal.specs.Count.{asks_from}
use Rattle.flight_journal.proofs.laws.worked_journals.Goals as goal

pub returns : goal.returns
unfolding after_from asks_from
returns c = record { over = refl; kept = refl; none_kept = refl; asks = refl; calls = refl; joined = refl; dials = refl; live = refl }
