use Rattle.flight_table.proofs.NewLemmas.{knows_new}
use Rattle.flight_table.proofs.laws.a_new_pass_is_told.Goals as goal

pub returns : goal.returns
returns c = knows_new
