use Rattle.flight_table.proofs.HitPassLemmas.{knows_hit}
use Rattle.flight_table.proofs.laws.a_pass_that_hit_is_told.Goals as goal

pub returns : goal.returns
returns c = knows_hit
