use Rattle.std.proofs.Common.{subst, sym}
use Rattle.digest_gate.specs.Digest.{IsDigest}
use Rattle.digest_gate.proofs.DigestLemmas.{IsDigest-digest_of}
use Rattle.channel_indexer.proofs.shards.shard.Goals as goal

pub shard_name-requires-clause-digest : goal.shard_name-requires-clause-digest
shard_name-requires-clause-digest c = subst IsDigest (sym c.of-digest.ensures) (IsDigest-digest_of c.deref.result.now)
