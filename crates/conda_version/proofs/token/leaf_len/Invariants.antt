use Rattle.std.proofs.Common.{◌≡◌, ◌+◌, length}
use Rattle.conda_version.specs.Cursor.{leaf_len}
use Rattle.conda_version.proofs.token.leaf_len.Given as goal

abbrev pub invariant-bytes : goal.invariant-bytes
invariant-bytes l = record { whole : l.len + length l.rest ≡ length l.text; value : leaf_len l.text ≡ l.len + leaf_len l.rest }

abbrev pub decreases-bytes : goal.decreases-bytes
decreases-bytes l = length l.rest
