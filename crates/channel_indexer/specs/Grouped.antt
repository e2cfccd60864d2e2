-- What a map from names to records is as groups.
use Rattle.std.specs.Prelude.{◌≡◌, ◌≢◌, ◌++◌, ℕ, List, [], IfSome}
use Rattle.std.specs.Option.{option_map_or}
use Rattle.std.specs.List.{All, filter}
use Rattle.std.specs.BTreeMap.{BTreeMap, IsOrdered, get_by_text}
use Rattle.std.specs.String.{string_cmp}
use Rattle.std.specs.declared.alloc.Global.{Global}
use Rattle.std.specs.declared.string.String.{String}
use Rattle.std.specs.declared.vec.Vec.{Vec}
use Rattle.std.specs.String.{string_bytes}
use Rattle.shard_file.specs.Rows.{Row}
use Rattle.channel_indexer.specs.Groups.{Group, is_named, name_in}

-- the group of an entry
abbrev pub group_of : String Global × Vec Row Global → Group
group_of e = record { name = string_bytes e.0; rows = e.1.items }

-- the rows that a map has under a name
abbrev pub rows_at : BTreeMap (String Global) (Vec Row Global) → List ℕ → List Row
rows_at groups name = option_map_or (λ g. g.items) (get_by_text groups name) []

-- no entry of a map is without rows
abbrev pub HaveRows : BTreeMap (String Global) (Vec Row Global) → Type 0
HaveRows groups = (name : List ℕ) → IfSome (get_by_text groups name) (λ g. g.items ≢ [])

-- some rows are of one package, whose name this is if there are any
abbrev pub IsRun : List Row → Type 0
IsRun run = (name : List ℕ) × All (λ r. name_in r ≡ name) run

-- a map and a run have the same rows of each package as another map and another run
pub record Adds (old : BTreeMap (String Global) (Vec Row Global)) (old_run : List Row) (new : BTreeMap (String Global) (Vec Row Global)) (run : List Row) : Type 0 where
  pub each : (name : List ℕ) → rows_at new name ++ filter (is_named name) run ≡ rows_at old name ++ filter (is_named name) old_run
  pub ordered : IsOrdered string_cmp new
  pub some : HaveRows new
