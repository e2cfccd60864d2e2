use Rattle.std.proofs.Common.{◌≡◌, length}
use Rattle.bench_tool.proofs.walk.walk_often.Given as goal

abbrev pub invariant-loop : goal.invariant-loop
invariant-loop l = l.walked ≡ length l.bytes
