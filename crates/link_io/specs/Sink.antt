-- What a write does to the bytes that a sink has taken, where it tells them.
use Rattle.std.specs.Prelude.{◌≡◌, ℕ, ◌≤◌, List, length, take, Option}
use Rattle.std.specs.Io.KnownBytes.{append_known}

-- a write took some of the first bytes of a piece, at least one
pub record Writes (old new : Option (List ℕ)) (count : ℕ) (piece : List ℕ) : Type 0 where
  pub some : 1 ≤ count
  pub within : count ≤ length piece
  pub bytes : new ≡ append_known old (take count piece)
