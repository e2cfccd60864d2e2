use Rattle.std.proofs.Common.{◌≡◌, ◌≤◌}
use Rattle.shard_service.proofs.serve.accept_all.Given as goal
use Rattle.shard_service.proofs.CountLemmas.{SoFar}

abbrev pub invariant-loop : goal.invariant-loop
invariant-loop g l = SoFar l.fn.limit l.left (g.A.Accept.accepted l.fn.accept) (g.A.Accept.accepted l.accept) (g.A.Accept.faults l.fn.accept) (g.A.Accept.faults l.accept)
