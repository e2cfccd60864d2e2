use Rattle.http_head.proofs.UnsettledLemmas.{unsettled-short}
use Rattle.http_head.proofs.laws.undecided_bytes_are_few.Goals as goal

pub returns : goal.returns
returns c = unsettled-short
