use Rattle.std.proofs.Common.{◌≡◌, ◌-◌}
use Rattle.mp_codec.specs.Maps.{unread}
use Rattle.shard_index.specs.Index.{index_keys}
use Rattle.shard_index.specs.Found.{known}
use Rattle.shard_index.specs.Reading.{index_pairs_from}
use Rattle.shard_index.proofs.reading.pairs_of_index.Given as goal

-- the pairs that are left, behind what was found so far, give what all of them give
abbrev pub invariant-loop : goal.invariant-loop
invariant-loop l = index_pairs_from (l.pairs - l.counter) (known l.found) l.cur ≡ index_pairs_from l.pairs (unread index_keys) l.fn.cur
