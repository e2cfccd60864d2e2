-- What is known after a pin or a shard was given.
use Rattle.std.specs.Prelude.{◌≡◌, ⊤, ℕ, Some, List, [], ◌∷◌, ◌++◌, if◌then◌else◌}
use Rattle.std.specs.List.{flat_map, slice_set}
use Rattle.shard_file.specs.Rows.{Row}
use Rattle.closure_plan.specs.declared.need.Need.{Need}
use Rattle.closure_plan.specs.declared.need.Need.TheVariants as need
use Rattle.closure_plan.specs.Names.{Name}
use Rattle.closure_request.specs.Request.{Asking}
use Rattle.closure_plan.specs.Given.{deps_of, given_of}
use Rattle.closure_plan.specs.Plan.{Known, Planned, name_at, without}

-- the names that are reached by the rows of a shard: none where the request is flat
abbrev pub reached_by : Asking → ℕ → Name → List Row → List Name
reached_by r s n rows = if r.flat then [] else flat_map deps_of (given_of r s n rows)

-- the index of a slot was pinned: what holds it stands at the slot, and all else is as it was
abbrev pub with_pin : {P H : Type 0} → ℕ → P → Known P H → Known P H
with_pin s holder k = record k { pins = slice_set k.pins s (Some holder) }

-- a shard of a slot and a name was given: its leaf stands behind the others, and the names that were there keep their
-- numbers, with the new ones behind them
pub record Gave {P H : Type 0} (s k : ℕ) (holder : H) (old new : Known P H) : Type 0 where
  pub request : new.request ≡ old.request
  pub pins : new.pins ≡ old.pins
  pub leaves : new.leaves ≡ old.leaves ++ record { slot = s; name = name_at old.names k; holder = holder } ∷ []
  pub fresh : List Name
  pub names : new.names ≡ old.names ++ fresh

-- the shard of a need was given, and the need's mark is gone
abbrev pub GaveNeed : {P H : Type 0} → Need → H → Planned P H → Planned P H → Type 0
GaveNeed (need.Index s) holder old new = ⊤
GaveNeed (need.Shard s k) holder old new = Gave s k holder old.known new.known × (new.marked ≡ without (need.Shard s k) old.marked)
