use Rattle.std.proofs.Common.{◌≡◌, ◌-◌}
use Rattle.mp_codec.specs.Maps.{unread}
use Rattle.conda_record.specs.Record.{record_keys}
use Rattle.conda_record.specs.Placing.{place_pairs_from}
use Rattle.conda_record.specs.Found.{known}
use Rattle.conda_record.proofs.reading.Found.read_pairs.Given as goal

-- the pairs that are left, behind what was read so far, give what all of them give
abbrev pub invariant-loop : goal.invariant-loop
invariant-loop l = place_pairs_from (l.pairs - l.counter) (known l.self) l.cur ≡ place_pairs_from l.pairs (unread record_keys) l.fn.cur
