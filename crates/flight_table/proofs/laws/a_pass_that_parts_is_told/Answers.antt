use Rattle.flight_table.proofs.PartLemmas.{knows_landed, knows_lost, knows_taken}
use Rattle.flight_table.proofs.laws.a_pass_that_parts_is_told.Goals as goal

pub returns : goal.returns
returns c = record { landed = knows_landed; lost = knows_lost; taken = knows_taken }
