-- What reading to the end and writing whole do to the bytes that are told.
use Rattle.std.specs.Prelude.{◌≡◌, ℕ, ◌≤◌, ◌<◌, List, length, take, Option}
use Rattle.std.specs.Io.KnownBytes.{prepend_known, append_known}

-- some bytes at the front of what was left are gone, and no more than a limit of them
pub record LosesAtMost (limit : ℕ) (old new : Option (List ℕ)) : Type 0 where
  pub front : List ℕ
  pub within : length front ≤ limit
  pub bytes : old ≡ prepend_known front new

-- only the first bytes of a piece were appended, and not the whole piece
pub record AppendsPart (old new : Option (List ℕ)) (piece : List ℕ) : Type 0 where
  pub count : ℕ
  pub part : count < length piece
  pub bytes : new ≡ append_known old (take count piece)
