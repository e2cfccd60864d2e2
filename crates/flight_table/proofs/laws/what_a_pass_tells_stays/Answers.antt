use Rattle.flight_table.proofs.TellLemmas.{tells_on, same_where_stays, same_where_moves}
use Rattle.flight_table.proofs.laws.what_a_pass_tells_stays.Goals as goal

pub returns : goal.returns
returns c = record { tells = tells_on; hands_stay = same_where_stays; hand_moves = same_where_moves }
