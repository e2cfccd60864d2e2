use Rattle.std.proofs.Common.{◌≡◌, ◌+◌, length}
use Rattle.byte_text.specs.Text.{sign_len}
use Rattle.byte_text.proofs.sign_len.Given as goal

abbrev pub invariant-bytes : goal.invariant-bytes
invariant-bytes l = record { whole : l.len + length l.rest ≡ length l.text; value : sign_len l.text ≡ l.len + sign_len l.rest }

abbrev pub decreases-bytes : goal.decreases-bytes
decreases-bytes l = length l.rest
