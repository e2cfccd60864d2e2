use Rattle.flight_table.specs.Lines.{of_pass, pass_in}
use Rattle.flight_table.specs.Saying.{said_by}
use Rattle.flight_table.proofs.saying.record_change.Given as goal

abbrev pub ghosts-say : goal.ghosts-say
ghosts-say g a = record { line = of_pass (said_by a.change a.flights.now (pass_in a.slip.now.1)) }
