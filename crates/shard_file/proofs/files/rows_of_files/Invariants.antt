use Rattle.std.proofs.Common.{◌≡◌, ◌-◌, ℕ, List, []}
use Rattle.mp_codec.specs.Span.{IsIn}
use Rattle.shard_file.specs.Names.{has_name, AreRising}
use Rattle.shard_file.specs.Spans.{rows_at, AreNamed}
use Rattle.shard_file.specs.Reading.{has_file, files_after}
use Rattle.shard_file.proofs.files.rows_of_files.Given as goal

-- the files that are left, behind the rows so far, give what all of them give, the names met are those of the rows, those
-- that rose rise, the cursor stays in the bytes, and names are text
abbrev pub invariant-loop : goal.invariant-loop
invariant-loop g l =
    (files_after l.conda (l.files - l.counter) (rows_at g.bytes l.rows.items) l.cur ≡ files_after l.conda l.files [] l.fn.cur)
    × ((q : List ℕ) → has_name l.names q ≡ has_file q (rows_at g.bytes l.rows.items))
    × AreRising l.names
    × IsIn g.bytes l.cur
    × AreNamed g.bytes l.rows.items
