use Rattle.std.proofs.Common.{sym, ◌∙◌, ap}
use Rattle.std.specs.Prelude.{Ok}
use Rattle.shard_index.proofs.IndexLemmas.{sorted_holds}
use Rattle.shard_index.proofs.index.Index.sorted.Goals as goal

pub invariant_of-result : goal.invariant_of-result
invariant_of-result c =
    sorted_holds c.args.bytes.now (record { info = c.info.inside.info; listed = c.info.inside.listing }) c.sort.new.self
    (c.in_ok-info.ensures ∙ ap Ok (sym c.info.view_is)) c.in_ok-sort.ensures
