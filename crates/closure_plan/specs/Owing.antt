-- The names of which a shard may still be owed.
use Rattle.std.specs.Prelude.{◌≡◌, ℕ, ◌<◌, ◌≤◌, Bool, true, false, List, [], ◌++◌, map, length}
use Rattle.std.specs.List.{All, list_all}
use Rattle.closure_plan.specs.Names.{Name, has_name, ascending}
use Rattle.closure_request.specs.Request.{Asking}
use Rattle.closure_plan.specs.Given.{Pins, LeafRows}
use Rattle.closure_plan.specs.Needs.{is_given, shards_of}
use Rattle.closure_plan.specs.Fresh.{IsOrder}
use Rattle.closure_plan.specs.Plan.{name_at}

-- whether each shard that is needed of a name is given
abbrev pub has_all : Asking → Pins → List LeafRows → Name → Bool
has_all r pins leaves n = list_all (is_given pins leaves) (shards_of r pins n)

-- numbers of listed names, ascending by name, among which is that of each name of which a shard is owed
pub record AreOwing (r : Asking) (pins : Pins) (names : List Name) (leaves : List LeafRows) (owing : List ℕ) : Type 0 where
  pub order : map (name_at names) owing ≡ ascending (map (name_at names) owing)
  pub within : All (λ k. k < length names) owing
  pub others : (n : Name) → has_name names n ≡ true → has_name (map (name_at names) owing) n ≡ false → has_all r pins leaves n ≡ true

-- numbers of names, and with them those of the names from one number to another of which a shard is needed
abbrev pub Owes : Asking → Pins → List Name → ℕ → ℕ → List ℕ → List ℕ → Type 0
Owes r pins names from to old new = (rest : List Name) → IsOrder names rest old
    → (some : List Name) × IsOrder names (rest ++ some) new
    × ((k : ℕ) → from ≤ k → k < to → has_name some (name_at names k) ≡ false → shards_of r pins (name_at names k) ≡ [])
