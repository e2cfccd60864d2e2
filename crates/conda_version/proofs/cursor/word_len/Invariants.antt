use Rattle.std.proofs.Common.{◌≡◌, ◌+◌, length}
use Rattle.conda_version.specs.Cursor.{word_len}
use Rattle.conda_version.proofs.cursor.word_len.Given as goal

abbrev pub invariant-bytes : goal.invariant-bytes
invariant-bytes l = record { whole : l.len + length l.rest ≡ length l.text; value : word_len l.text ≡ l.len + word_len l.rest }

abbrev pub decreases-bytes : goal.decreases-bytes
decreases-bytes l = length l.rest
