use Rattle.std.proofs.Common.{◌≡◌, ◌≤◌, ℕ}
use Rattle.match_spec.specs.Bracket.{entries, entries_within, open_quote}
use Rattle.match_spec.specs.Seen.{passage_in, passage_there}
use Rattle.match_spec.proofs.EntryLemmas.{left_len}
use Rattle.match_spec.proofs.bracket.open_quote.Given as goal

abbrev pub invariant-parts : goal.invariant-parts
invariant-parts l =
    (n : ℕ) × (left_len l.left ≤ n) × (open_quote (entries (passage_in l.inside)) ≡ open_quote (entries_within n (passage_there l.left)))

abbrev pub decreases-parts : goal.decreases-parts
decreases-parts l = left_len l.left
