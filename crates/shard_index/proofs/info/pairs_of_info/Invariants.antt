use Rattle.std.proofs.Common.{◌≡◌, ◌-◌}
use Rattle.mp_codec.specs.Maps.{unread}
use Rattle.shard_index.specs.Info.{info_keys, info_pairs_from}
use Rattle.shard_index.specs.Found.{info_known}
use Rattle.shard_index.proofs.info.pairs_of_info.Given as goal

-- the pairs that are left, behind what was found so far, give what all of them give
abbrev pub invariant-loop : goal.invariant-loop
invariant-loop l = info_pairs_from (l.pairs - l.counter) (info_known l.found) l.cur ≡ info_pairs_from l.pairs (unread info_keys) l.fn.cur
