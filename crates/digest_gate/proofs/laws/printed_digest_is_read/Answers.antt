use Rattle.digest_gate.proofs.DigestLemmas.{digest_in-text_of}
use Rattle.digest_gate.proofs.laws.printed_digest_is_read.Goals as goal

pub returns : goal.returns
returns c = digest_in-text_of
