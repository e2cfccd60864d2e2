use Rattle.std.proofs.Common.{length}
use Rattle.bench_tool.proofs.WalkLemmas.{IsBehindValues}
use Rattle.bench_tool.proofs.walk.walk.Given as goal

abbrev pub invariant-loop-cursor : goal.invariant-loop-cursor
invariant-loop-cursor l = IsBehindValues l.bytes l.cursor

abbrev pub decreases-loop-cursor : goal.decreases-loop-cursor
decreases-loop-cursor l = length l.cursor.left
