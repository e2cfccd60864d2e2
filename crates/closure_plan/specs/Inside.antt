-- What is always so of the parts of a plan that only its own code sees.
use Rattle.std.specs.Prelude.{◌≡◌, ℕ, ◌+◌, ◌*◌, ◌<◌, ◌≤◌, List, map, length, eqb}
use Rattle.std.specs.List.{All, IsDistinct}
use Rattle.shard_file.specs.Rows as shards
use Rattle.shard_index.specs.Index as indexes
use Rattle.closure_plan.specs.declared.need.Need.{Need}
use Rattle.closure_plan.specs.declared.need.Need.TheVariants as need
use Rattle.closure_plan.specs.Names.{ascending}
use Rattle.closure_request.specs.Slots.{slots}
use Rattle.closure_plan.specs.Plan.{Planned, IsPlan, name_at}

-- the place of a need among all that there could be of so many slots
abbrev pub place_of : ℕ → Need → ℕ
place_of slots (need.Index s) = s
place_of slots (need.Shard s k) = (k + 1) * slots + s

-- the order is that of the names, no need is marked twice, and there is room for
-- a mark of each need that there could be
pub record Holds {P H : Type 0} (pinned : P → indexes.Contents) (held : H → shards.Contents) (seen : Planned P H) (by_name : List ℕ) (marks_room : ℕ) : Type 0 where
  pub keeps : IsPlan pinned held seen
  pub order : map (name_at seen.known.names) by_name ≡ ascending seen.known.names
  pub within : All (λ k. k < length seen.known.names) by_name
  pub apart : IsDistinct eqb (map (place_of (length (slots seen.known.request))) seen.marked)
  pub room : (length seen.known.names + 1) * length (slots seen.known.request) ≤ marks_room
