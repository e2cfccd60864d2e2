use Rattle.std.proofs.Common.{◌≡◌, ℕ, Ok, length}
use Rattle.serde_json.specs.Data.{Members, object}
use Rattle.channel_indexer.specs.Input.{rows_in}
use Rattle.channel_indexer.proofs.PlainLemmas.{Reads, Passed}
use Rattle.channel_indexer.proofs.plain.rows_of_keys.Given as goal

-- the members so far, behind the last of which the next one comes, and the rows that they say
abbrev pub invariant-keys : goal.invariant-keys
invariant-keys l =
    (n : ℕ) × (done : Members) × Reads 126 l.initial.reader n l.reader done × Passed l.last done
    × (rows_in (object done) ≡ Ok l.rows.items)

abbrev pub decreases-keys : goal.decreases-keys
decreases-keys l = length l.reader
