use Rattle.channel_store.specs.Names.{input_name}
use Rattle.channel_store.proofs.NameLemmas.{input_is_store_name}
use Rattle.channel_indexer.proofs.NameLemmas.{named-stored}
use Rattle.channel_indexer.proofs.shards.input_name.Goals as goal

pub returns-clause-stored : goal.returns-clause-stored
returns-clause-stored c = named-stored c.joined.result (input_name c.args.place.now) (input_is_store_name c.args.place.now c.requires) c.joined.ensures
