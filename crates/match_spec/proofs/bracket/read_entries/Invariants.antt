use Rattle.std.proofs.Common.{◌≡◌, ◌≤◌, ℕ}
use Rattle.match_spec.specs.Bracket.{entries, entries_within}
use Rattle.match_spec.specs.Parts.{no_parts}
use Rattle.match_spec.specs.Seen.{passage_in, passage_there}
use Rattle.match_spec.specs.Reading.{with_entries}
use Rattle.match_spec.proofs.EntryLemmas.{left_len}
use Rattle.match_spec.proofs.bracket.read_entries.Given as goal

abbrev pub invariant-parts : goal.invariant-parts
invariant-parts l =
    (n : ℕ) × (left_len l.left ≤ n) × (with_entries (entries (passage_in l.inside)) no_parts ≡ with_entries (entries_within n (passage_there l.left)) l.parts)

abbrev pub decreases-parts : goal.decreases-parts
decreases-parts l = left_len l.left
