use Rattle.std.proofs.Common.{rules, ◌≡◌, get_or, sym, subst, ℕ, ◌++◌, List, false, arith}
use Rattle.std.specs.List.{slice_get}
use Rattle.std.specs.Ordering.{is_lt}
use Rattle.std.specs.List.Sorted.{IsSortedBy}
use Rattle.std.proofs.Math.Bool.{Bool-set}
use Rattle.std.proofs.Math.Logic.{∥∥₁_elim}
use Rattle.std.proofs.lemmas.List.Sorted.{IsPartitionPoint-from_clause}
use Rattle.shard_file.specs.Rows.{Contents, file_lt}
use Rattle.shard_file.specs.declared.spans.FileSpans.{FileSpans}
use Rattle.shard_file.specs.Spans.{row_at, rows_at}
use Rattle.shard_file.specs.Twin.{is_newer, newer_ending, row_passes}
use Rattle.shard_file.proofs.TwinLemmas.{compared, lt_parted, lt_unequal, not_newer}
use Rattle.shard_file.proofs.shard.Shard.first_from.Goals as goal

pub returns : goal.returns
returns c = λ name k lt.
    let bytes : List ℕ = c.self.inside.bytes.items in
    let text : List ℕ = c.args.stem.now ++ newer_ending in
    let rows : List FileSpans = c.deref.result.now in
    subst (λ (s : Contents). row_passes (is_newer text name) (slice_get s.rows k) ≡ false) c.self.view_is
    (subst (λ (xs : List FileSpans). row_passes (is_newer text name) (slice_get (rows_at bytes xs) k) ≡ false) c.deref.ensures.value
    (∥∥₁_elim c.self.invariant (Bool-set _ _) (λ s.
    let point = IsPartitionPoint-from_clause (λ x. is_lt (compared (row_at bytes) text x)) rows c.partition_point.result c.partition_point.ensures.partitioned
    (lt_parted (row_at bytes) text rows (subst (λ (xs : List FileSpans). IsSortedBy file_lt (rows_at bytes xs)) (sym c.deref.ensures.value) s.ascending)) (λ a r f' called. search rules) in
    not_newer (row_at bytes) text name rows k (λ d l. lt_unequal (compared (row_at bytes) text (get_or rows k d)) (point.0 k d (omega arith) lt)))))
