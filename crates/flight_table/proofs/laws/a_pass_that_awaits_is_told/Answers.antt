use Rattle.flight_table.proofs.AwaitLemmas.{knows_begun, knows_joined}
use Rattle.flight_table.proofs.laws.a_pass_that_awaits_is_told.Goals as goal

pub returns : goal.returns
returns c = record { begun = knows_begun; joined = knows_joined }
