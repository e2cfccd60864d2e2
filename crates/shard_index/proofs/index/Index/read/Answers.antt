use Rattle.shard_index.proofs.IndexLemmas.{read_found, read_only, read_first}
use Rattle.shard_index.proofs.index.Index.read.Goals as goal

pub returns-clause-found : goal.returns-clause-found
returns-clause-found c = read_found c.args.bytes.now c.sorted.result c.sorted.ensures

pub returns-clause-only : goal.returns-clause-only
returns-clause-only c = read_only c.args.bytes.now c.sorted.result c.sorted.ensures

pub returns-clause-fault : goal.returns-clause-fault
returns-clause-fault c = read_first c.args.bytes.now c.sorted.result c.sorted.ensures
