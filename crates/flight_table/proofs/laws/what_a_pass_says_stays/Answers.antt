use Rattle.flight_table.proofs.KnowLemmas.{knows_more}
use Rattle.flight_table.proofs.TellLemmas.{knows_on}
use Rattle.flight_table.proofs.laws.what_a_pass_says_stays.Goals as goal

pub returns : goal.returns
returns c = record { one = knows_more; some = knows_on }
