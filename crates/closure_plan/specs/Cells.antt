-- Which shard was given of a name in a slot, by the numbers of both.
use Rattle.std.specs.Prelude.{◌≡◌, ℕ, ◌+◌, ◌*◌, ◌<◌, ◌≤◌, List, length, Option, None, IfSome}
use Rattle.std.specs.List.{find, slice_index_or}
use Rattle.std.specs.Option.{option_map}
use Rattle.closure_plan.specs.Names.{Name}
use Rattle.closure_plan.specs.Given.{LeafRows, is_at}
use Rattle.closure_plan.specs.Plan.{name_at}
use Rattle.closure_plan.specs.Rows.{leaf_or_none}

-- the cell of a place, and none behind the last
abbrev pub cell_at : List (Option ℕ) → ℕ → Option ℕ
cell_at cells place = slice_index_or cells place None

-- the cell of a name in a slot has the place of the first shard of both among those that were given, and is empty where
-- there is none; a cell behind those of the names is empty
pub record AreCells (slots : ℕ) (names : List Name) (leaves : List LeafRows) (cells : List (Option ℕ)) : Type 0 where
  pub found : (k s : ℕ) → k < length names → s < slots → option_map (leaf_or_none leaves) (cell_at cells (k * slots + s)) ≡ find (is_at s (name_at names k)) leaves
  pub within : (place : ℕ) → IfSome (cell_at cells place) (λ i. i < length leaves)
  pub free : (place : ℕ) → length names * slots ≤ place → cell_at cells place ≡ None
