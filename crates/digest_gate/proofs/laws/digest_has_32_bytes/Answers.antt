use Rattle.digest_gate.proofs.DigestLemmas.{IsDigest-digest_of}
use Rattle.digest_gate.proofs.laws.digest_has_32_bytes.Goals as goal

pub returns : goal.returns
returns c = IsDigest-digest_of
