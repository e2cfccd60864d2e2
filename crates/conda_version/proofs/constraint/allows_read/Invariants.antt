use Rattle.std.proofs.Common.{◌≡◌, ◌+◌, ◌∷◌, [], ◌^◌, ◌<◌, Bool, ℕ, None, length, map}
use Rattle.conda_version.specs.Allowing.{fresh, groups_after, signs_of}
use Rattle.conda_version.specs.Meaning.{seen}
use Rattle.conda_version.specs.Token.{tokens_from}
use Rattle.conda_version.proofs.SoundLemmas.{Sound, token_of}
use Rattle.conda_version.proofs.constraint.allows_read.Given as goal

abbrev pub invariant-tokens : goal.invariant-tokens
invariant-tokens l = record {
  same : groups_after (seen l.version) (fresh ∷ []) (signs_of l.text) ≡ groups_after (seen l.version) l.levels (map token_of (tokens_from None l.at l.rest));
  sound : (item : Bool) × (depth : ℕ) × (length l.levels ≡ depth + 1) × Sound item depth (map token_of (tokens_from None l.at l.rest));
  place : l.at + length l.rest ≡ length l.text;
  fits : length l.text < 2 ^ 63;
}

abbrev pub decreases-tokens : goal.decreases-tokens
decreases-tokens l = length l.rest
