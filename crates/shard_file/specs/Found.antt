-- What was read so far of a shard, by the places of its keys.
use Rattle.std.specs.Prelude.{ℕ, Bool, true, false, List, [], ◌∷◌, Option, Some, None, IfSome}
use Rattle.std.specs.declared.alloc.Global.{Global}
use Rattle.std.specs.declared.vec.Vec.{Vec}
use Rattle.shard_file.specs.declared.reading.Key.{Key}
use Rattle.shard_file.specs.declared.reading.Key.TheVariants as key
use Rattle.shard_file.specs.declared.reading.Found.{Found}
use Rattle.shard_file.specs.declared.spans.FileSpans.{FileSpans}
use Rattle.shard_file.specs.Rows.{Row}
use Rattle.shard_file.specs.Spans.{rows_at, AreNamed}

-- the place of a key among the known ones, or their number
abbrev pub place : Key → ℕ
place key.Packages = 0
place key.Conda = 1
place key.Removed = 2
place key.Other = 3

-- the rows of a map of files that was read
abbrev pub rows_read : List ℕ → Option (Vec FileSpans Global) → Option (List Row)
rows_read bytes (Some rows) = Some (rows_at bytes rows.items)
rows_read bytes None = None

-- a value that was skipped has no rows
abbrev pub skipped_read : Bool → Option (List Row)
skipped_read true = Some []
skipped_read false = None

-- what was found, by the places of the keys, each text as it stands in these bytes
abbrev pub known : List ℕ → Found → List (Option (List Row))
known bytes found = rows_read bytes found.packages ∷ rows_read bytes found.conda ∷ skipped_read found.removed ∷ []

-- the bytes at the span of each file name that was found are text
pub record IsNamed (bytes : List ℕ) (found : Found) : Type 0 where
  pub packages : IfSome found.packages (λ rows. AreNamed bytes rows.items)
  pub conda : IfSome found.conda (λ rows. AreNamed bytes rows.items)
