use Rattle.mp_codec.proofs.WritingLemmas.{uint_value_shortest, str_value_shortest, bin_value_shortest, array_head_shortest, map_head_shortest}
use Rattle.mp_codec.proofs.laws.what_is_written_is_shortest.Goals as goal

pub returns-clause-uint : goal.returns-clause-uint
returns-clause-uint c = uint_value_shortest

pub returns-clause-str : goal.returns-clause-str
returns-clause-str c = str_value_shortest

pub returns-clause-bin : goal.returns-clause-bin
returns-clause-bin c = bin_value_shortest

pub returns-clause-array : goal.returns-clause-array
returns-clause-array c = array_head_shortest

pub returns-clause-map : goal.returns-clause-map
returns-clause-map c = map_head_shortest
