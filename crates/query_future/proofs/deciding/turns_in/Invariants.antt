use Rattle.std.proofs.Common.{◌≡◌, ◌≤◌, ◌*◌, ◌^◌, take}
use Rattle.std.specs.List.{sum}
use Rattle.query_future.proofs.deciding.turns_in.Given as goal

abbrev pub invariant-loop-count : goal.invariant-loop-count
invariant-loop-count l = record { sum : l.turns ≡ sum (take l.count-index l.counts); low : l.turns ≤ l.count-index * 2 ^ 64 }
