use Rattle.std.proofs.Common.{rules, ◌≡◌, Some}
use Rattle.std.specs.Prelude.{◌≢◌}
use Rattle.shard_service.specs.Serving.{one_more}
use Rattle.shard_service.proofs.CountLemmas.{stepped}
use Rattle.shard_service.proofs.serve.accept_all.Goals as goal

pub loop-preserved : goal.loop-preserved
loop-preserved g c =
    let accepted = g.A.Accept.accepted in
    let faults = g.A.Accept.faults in
    let some : c.loop.left ≢ Some 0 = search rules in
    let more : accepted c.accept_one.new.accept ≡ one_more (accepted c.loop.accept) = search rules in
    stepped c.args.limit c.loop.left c.one_less-left.result (accepted c.args.accept.now) (accepted c.loop.accept) (accepted c.accept_one.new.accept)
    (faults c.args.accept.now) (faults c.loop.accept) (faults c.accept_one.new.accept) c.loop.invariant some more c.accept_one.ensures.later c.one_less-left.ensures
