use Rattle.channel_indexer.specs.Shards.{shard_file}
use Rattle.channel_indexer.proofs.NameLemmas.{named-stored, shard-stored}
use Rattle.channel_indexer.proofs.shards.shard_name.Goals as goal

pub returns-clause-stored : goal.returns-clause-stored
returns-clause-stored c =
    let place = c.args.place.now in
    let digest = c.args.digest.now in
    named-stored c.shard_text.result (shard_file place digest) (shard-stored place digest c.requires.place c.requires.digest) c.shard_text.ensures
