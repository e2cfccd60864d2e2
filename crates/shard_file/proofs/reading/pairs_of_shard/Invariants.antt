use Rattle.std.proofs.Common.{◌≡◌, ◌-◌}
use Rattle.mp_codec.specs.Maps.{unread}
use Rattle.mp_codec.specs.Span.{IsIn}
use Rattle.shard_file.specs.Rows.{shard_keys}
use Rattle.shard_file.specs.Found.{known, IsNamed}
use Rattle.shard_file.specs.Reading.{pairs_from}
use Rattle.shard_file.proofs.reading.pairs_of_shard.Given as goal

abbrev pub ghost-new : goal.ghost-new
ghost-new g a = g.bytes

abbrev pub ghost-next_key : goal.ghost-next_key
ghost-next_key g a = g.bytes

abbrev pub ghost-read_value : goal.ghost-read_value
ghost-read_value g a = g.bytes

abbrev pub ghost-finish : goal.ghost-finish
ghost-finish g a = g.bytes

-- the pairs that are left, behind what was found so far, give what all of them give, the cursor stays in the
-- bytes, and names are text
abbrev pub invariant-loop : goal.invariant-loop
invariant-loop g l =
    (pairs_from (l.pairs - l.counter) (known g.bytes l.found) l.cur ≡ pairs_from l.pairs (unread shard_keys) l.fn.cur)
    × IsIn g.bytes l.cur
    × IsNamed g.bytes l.found
