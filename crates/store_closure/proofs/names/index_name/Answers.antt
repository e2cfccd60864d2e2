use Rattle.channel_store.specs.Names.{index_name}
use Rattle.channel_store.proofs.NameLemmas.{index_is_store_name}
use Rattle.store_closure.proofs.NameLemmas.{named-stored}
use Rattle.store_closure.proofs.names.index_name.Goals as goal

pub returns-clause-stored : goal.returns-clause-stored
returns-clause-stored c = named-stored c.joined.result (index_name c.args.place.now) (index_is_store_name c.args.place.now c.requires) c.joined.ensures
