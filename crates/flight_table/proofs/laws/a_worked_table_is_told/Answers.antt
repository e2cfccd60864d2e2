use Rattle.flight_table.proofs.WorkedLemmas.{first_tells, owed_tells, took_tells, taking_follows, forgot_untold}
use Rattle.flight_table.proofs.laws.a_worked_table_is_told.Goals as goal

pub returns : goal.returns
returns c = record { landed = first_tells; awaits = owed_tells; took = took_tells; follows = taking_follows; forgot = forgot_untold }
