use Rattle.std.proofs.Common.{◌≡◌, ◌∙◌, ap, sym}
use Rattle.query_needs.specs.Targets.{key_at}
use Rattle.query_needs.proofs.FitLemmas.{pin_fits, leaf_fits}
use Rattle.query_needs.proofs.KeyLemmas.{shard_key}
use Rattle.query_needs.proofs.taking.given.Goals as goal

pub pinned-requires-clause-pin : goal.pinned-requires-clause-pin
pinned-requires-clause-pin g c =
    pin_fits g.L.Conn.facts c.args.plan.known.request c.in-Index.slot c.args.value.value c.tell.ensures c.requires.sized
    (c.requires.keyed ∙ ap (key_at c.args.plan.known) c.in-Index.is)

pub filled-requires-clause-leaf : goal.filled-requires-clause-leaf
filled-requires-clause-leaf g c =
    let w = shard_key c.args.plan.known c.in-Shard.slot c.in-Shard.n (rw c.in-Shard.is at c.requires.needed) in
    leaf_fits g.L.Conn.facts w.0 c.args.value.value c.tell.ensures c.requires.sized
    (c.requires.keyed ∙ ap (key_at c.args.plan.known) c.in-Shard.is ∙ w.2)
