-- What a read does to the bytes that a source has left, where it tells them.
use Rattle.std.specs.Prelude.{◌≡◌, ℕ, ◌≤◌, List, length, take, Option}
use Rattle.std.specs.Io.KnownBytes.{prepend_known, IsAtEnd}

-- a read put the next bytes that were left at the front of a buffer, and none only at the end
pub record Reads (old new : Option (List ℕ)) (count : ℕ) (buffer : List ℕ) : Type 0 where
  pub within : count ≤ length buffer
  pub bytes : old ≡ prepend_known (take count buffer) new
  pub end : count ≡ 0 → IsAtEnd new
