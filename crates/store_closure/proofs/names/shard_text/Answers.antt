use Rattle.std.proofs.Common.{arith}
use Rattle.hex.specs.Hex.{encode_lower}
use Rattle.channel_store.specs.Names.{shard_name}
use Rattle.store_closure.proofs.NameLemmas.{named-stored, shard-stored}
use Rattle.store_closure.proofs.names.shard_text.Goals as goal

pub returns-clause-stored : goal.returns-clause-stored
returns-clause-stored c =
    let place = c.args.place.now in
    let digest = c.args.digest.now in
    named-stored c.shard_parts.result (shard_name place (encode_lower digest)) (shard-stored place digest c.requires.place c.requires.size (λ i. let f = (c.type_inv.digest i).fits in omega (arith, f))) c.shard_parts.ensures
