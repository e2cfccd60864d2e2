use Rattle.flight_rows.proofs.EntryLemmas.{begins}
use Rattle.flight_rows.proofs.table.Flights.new.Goals as goal

pub invariant_of-result : goal.invariant_of-result
invariant_of-result g c = rw (c.new.ensures, c.of.ensures, c.new-4.ensures) (begins _ _ _ _ _ _ _ _ c.new-2.ensures.empty c.new-3.ensures.empty)
