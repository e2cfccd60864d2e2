use Rattle.std.proofs.Common.{◌≡◌, ℕ, List, ◌++◌, length}
use Rattle.std.specs.List.{filter}
use Rattle.std.specs.Vec.Iter.{into_iter_items, into_iter_len}
use Rattle.std.specs.BTreeMap.{IsOrdered}
use Rattle.std.specs.String.{string_cmp}
use Rattle.channel_indexer.specs.Groups.{is_named}
use Rattle.channel_indexer.specs.Grouped.{rows_at, HaveRows, IsRun}
use Rattle.channel_indexer.proofs.groups.grouped.Given as goal

-- under each name stand the records so far that have it, but for those of the run
abbrev pub invariant-loop-record : goal.invariant-loop-record
invariant-loop-record l = record {
  each : (name : List ℕ) → rows_at l.groups name ++ filter (is_named name) l.run.items ≡ filter (is_named name) l.yielded;
  all : l.fn.records.items ≡ l.yielded ++ into_iter_items l.record-iterator;
  left : into_iter_len l.record-iterator ≡ length (into_iter_items l.record-iterator);
  ordered : IsOrdered string_cmp l.groups;
  some : HaveRows l.groups;
  run : IsRun l.run.items;
}
