use Rattle.std.proofs.Common.{◌≡◌, length, arith}
use Rattle.bench_tool.proofs.WalkLemmas.{behind_one, fewer_left, at_end}
use Rattle.bench_tool.proofs.walk.walk.Goals as goal

pub loop-cursor-smaller : goal.loop-cursor-smaller
loop-cursor-smaller c = fewer_left c.in_ok-skip.ensures.found.0 c.loop-cursor.cursor c.skip.new.self c.in_ok-skip.ensures.found.1

pub loop-cursor-preserved : goal.loop-cursor-preserved
loop-cursor-preserved c = behind_one c.args.bytes.now c.in_ok-skip.ensures.found.0 c.loop-cursor.cursor c.skip.new.self c.in_ok-skip.ensures.found.1 c.loop-cursor.invariant

pub returns-clause-values : goal.returns-clause-values
returns-clause-values c =
    let none_left : length c.loop-cursor.cursor.left ≡ 0 = grind arith in
    at_end c.args.bytes.now c.loop-cursor.cursor none_left c.loop-cursor.invariant
