use Rattle.std.proofs.Common.{◌≡◌, ◌++◌, map}
use Rattle.std.specs.List.{All}
use Rattle.channel_indexer.specs.Grouped.{group_of}
use Rattle.channel_indexer.specs.Shards.{shard_put, listed_of, IsFit}
use Rattle.shard_file.specs.Rows.{ShardOf}
use Rattle.shard_file.specs.Writing.{shard_bytes}
use Rattle.channel_indexer.proofs.shards.prepare.Given as goal

-- the shards of the groups so far are made, and none of them is too long
abbrev pub invariant-loop-name : goal.invariant-loop-name
invariant-loop-name l = record {
  fit : All IsFit (map group_of l.yielded);
  readings : All (λ g. ShardOf (shard_bytes g.rows) g.rows) (map group_of l.yielded);
  shards : l.shards.items ≡ map (shard_put l.place) (map group_of l.yielded);
  rows : l.rows.items ≡ map listed_of (map group_of l.yielded);
  all : l.fn.groups.entries ≡ l.yielded ++ l.name-iterator;
}
