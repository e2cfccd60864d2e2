-- The closure of a request over pins and leaves.
use Rattle.std.specs.Prelude.{ℕ, List, map, if◌then◌else◌}
use Rattle.std.specs.List.{flat_map}
use Rattle.shard_file.specs.Rows.{Row}
use Rattle.closure_plan.specs.Names.{Name, ascending}
use Rattle.closure_plan.specs.Rounds.{reached}
use Rattle.closure_request.specs.Request.{Asking, root_names}
use Rattle.closure_request.specs.Slots.{slot_at, numbers}
use Rattle.closure_plan.specs.Given.{Pins, LeafRows, given, deps_of}

-- the names that the given rows of a name depend on, in all slots
abbrev pub leads_to : Asking → Pins → List LeafRows → Name → List Name
leads_to r pins leaves n = flat_map (λ s. flat_map deps_of (given r pins leaves s n)) (numbers r)

-- the names that rows of leaves depend on
abbrev pub targets : List LeafRows → List Name
targets leaves = flat_map deps_of (flat_map (λ l. l.rows) leaves)

-- the names that are reached, ascending: the root names where the request is flat, and otherwise these after as many
-- rounds as there are different names that rows depend on; no further round adds a name
abbrev pub reach : Asking → Pins → List LeafRows → List Name
reach r pins leaves =
    if r.flat then ascending (root_names r) else reached (leads_to r pins leaves) (targets leaves) (root_names r)

-- a row of an answer: the channel and the subdir of its slot, and the row
pub record Found : Type 0 where
  pub channel : List ℕ
  pub subdir : List ℕ
  pub row : Row

-- a row in a slot
abbrev pub found : Asking → ℕ → Row → Found
found r s row = record { channel = (slot_at r s).channel.name; subdir = (slot_at r s).subdir; row = row }

-- the rows of a slot, by name
abbrev pub closure_in : Asking → Pins → List LeafRows → ℕ → List Found
closure_in r pins leaves s = flat_map (λ n. map (found r s) (given r pins leaves s n)) (reach r pins leaves)

-- the closure: for each slot in order, and each name that is reached, ascending, the given rows
abbrev pub closure : Asking → Pins → List LeafRows → List Found
closure r pins leaves = flat_map (closure_in r pins leaves) (numbers r)
