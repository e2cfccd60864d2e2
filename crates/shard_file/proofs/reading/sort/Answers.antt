use Rattle.std.proofs.Common.{◌≡◌, rules, subst, ℕ, List, map}
use Rattle.std.specs.List.Sorted.{IsSortedBy, IsStableBy}
use Rattle.std.proofs.lemmas.Fn.{always_returns_same}
use Rattle.std.proofs.lemmas.Result.{on_ok_weaker}
use Rattle.mp_codec.proofs.SortingLemmas.{is_sorted_by}
use Rattle.shard_file.specs.Rows.{Row, file_lt}
use Rattle.shard_file.specs.Spans.{rows_at}
use Rattle.shard_file.proofs.SortLemmas.{file_order}
use Rattle.shard_file.proofs.SortedMapLemmas.{over, sorted_mapped, stable_mapped}
use Rattle.shard_file.proofs.SpanLemmas.{named_still, raw_row_at, raw_rows, raw_order}
use Rattle.shard_file.proofs.reading.sort.Goals as goal

pub returns : goal.returns
returns c =
    let bytes : List ℕ = c.args.bytes.now in
    let before : map (raw_row_at bytes) c.args.rows.now.items ≡ rows_at bytes c.args.rows.now.items = raw_rows bytes c.args.rows.now.items c.requires in
    let after : map (raw_row_at bytes) c.sort_by.new.self.items ≡ rows_at bytes c.sort_by.new.self.items =
    raw_rows bytes c.sort_by.new.self.items (named_still bytes c.args.rows.now.items c.sort_by.new.self.items c.sort_by.ensures.permutation c.requires) in
    let stable : IsStableBy file_lt (rows_at bytes c.args.rows.now.items) (rows_at bytes c.sort_by.new.self.items) =
    subst (λ (rows : List Row). IsStableBy file_lt rows (rows_at bytes c.sort_by.new.self.items)) before
    (subst (λ (rows : List Row). IsStableBy file_lt (map (raw_row_at bytes) c.args.rows.now.items) rows) after
    (stable_mapped (raw_row_at bytes) file_lt file_order c.args.rows.now.items c.sort_by.new.self.items (c.sort_by.ensures.stable (over (raw_row_at bytes) file_lt) (raw_order bytes)
    (always_returns_same _ _ _ (λ a r f k. (search rules, search rules)))))) in
    on_ok_weaker c.sort_by.result (λ h. is_sorted_by file_lt file_order (rows_at bytes c.args.rows.now.items) (rows_at bytes c.sort_by.new.self.items)
    (subst (IsSortedBy file_lt) after (sorted_mapped (raw_row_at bytes) file_lt c.sort_by.new.self.items (h (over (raw_row_at bytes) file_lt) (raw_order bytes)
    (always_returns_same _ _ _ (λ a r f k. (search rules, search rules)))))) stable) c.sort_by.ensures.sorted
