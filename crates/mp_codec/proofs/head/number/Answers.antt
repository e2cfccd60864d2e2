use Rattle.std.proofs.Common.{arith}
use Rattle.mp_codec.proofs.NumberLemmas.{big_endian_8}
use Rattle.mp_codec.proofs.head.number.Goals as goal

pub returns-in-len8-clause-value : goal.returns-in-len8-clause-value
returns-in-len8-clause-value c = big_endian_8 c.args.bytes.now c.from_be_bytes-in-len8.result (omega arith) c.from_be_bytes-in-len8.ensures
