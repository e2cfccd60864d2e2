use Rattle.mp_codec.specs.Writing.{uint_bytes, str_bytes, bin_bytes, array_head, map_head, uint_value, str_value, bin_value}
use Rattle.mp_codec.proofs.WritingLemmas.{uint_read, str_read, bin_read, array_head_spelled, map_head_spelled, stands}
use Rattle.mp_codec.proofs.laws.what_is_written_stands.Goals as goal

pub returns-clause-uint : goal.returns-clause-uint
returns-clause-uint c = λ n lt. stands (uint_value n) (uint_bytes n) (uint_read n lt)

pub returns-clause-str : goal.returns-clause-str
returns-clause-str c = λ payload lt. stands (str_value payload) (str_bytes payload) (str_read payload lt)

pub returns-clause-bin : goal.returns-clause-bin
returns-clause-bin c = λ payload lt. stands (bin_value payload) (bin_bytes payload) (bin_read payload lt)

pub returns-clause-array : goal.returns-clause-array
returns-clause-array c = λ n lt here there b. record { bytes = array_head n; spelled = array_head_spelled n lt; between = b }

pub returns-clause-map : goal.returns-clause-map
returns-clause-map c = λ n lt here there b. record { bytes = map_head n; spelled = map_head_spelled n lt; between = b }
