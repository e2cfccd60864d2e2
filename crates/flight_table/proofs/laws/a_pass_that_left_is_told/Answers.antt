use Rattle.flight_table.proofs.CloseLemmas.{knows_leaving}
use Rattle.flight_table.proofs.laws.a_pass_that_left_is_told.Goals as goal

pub returns : goal.returns
returns c = knows_leaving
