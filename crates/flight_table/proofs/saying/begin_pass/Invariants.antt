use Rattle.flight_table.specs.Saying.{fresh_line}
use Rattle.flight_table.proofs.saying.begin_pass.Given as goal

abbrev pub ghosts-begin : goal.ghosts-begin
ghosts-begin g a = record { line = fresh_line a.fresh a.flights.now }
