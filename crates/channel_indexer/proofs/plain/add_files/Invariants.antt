use Rattle.std.proofs.Common.{◌≡◌, ℕ, Ok, length}
use Rattle.serde_json.specs.Data.{Members}
use Rattle.channel_indexer.specs.Input.{rows_of}
use Rattle.channel_indexer.specs.Seen.{behind}
use Rattle.channel_indexer.proofs.PlainLemmas.{Reads, Passed}
use Rattle.channel_indexer.proofs.plain.add_files.Given as goal

-- the files so far, behind the last of which the next one comes, and their rows
abbrev pub invariant-files : goal.invariant-files
invariant-files l =
    (n : ℕ) × (done : Members) × Reads 125 l.initial.reader n l.reader done × Passed l.last done
    × (behind l.initial.rows.items (rows_of l.conda done) ≡ Ok l.rows.items)

abbrev pub decreases-files : goal.decreases-files
decreases-files l = length l.reader
