use Rattle.std.proofs.Common.{sym, ◌∙◌}
use Rattle.flight_journal.specs.Journal.{after}
use Rattle.flight_rows.proofs.TakeLemmas.{waits_not_owed, none_some}
use Rattle.flight_rows.proofs.table.Flights.is_busy.Goals as goal

pub returns-in-Ready-clause-no : goal.returns-in-Ready-clause-no
returns-in-Ready-clause-no g c = λ away. absurd (none_some away.1.0 (sym c.in-Ready.ensures.1 ∙ away.1.1))

pub returns-in-Owed-clause-no : goal.returns-in-Owed-clause-no
returns-in-Owed-clause-no g c = λ away. absurd (waits_not_owed (after c.args.self.now.journal) c.args.query c.args.f away.0 c.in-Owed.ensures)
