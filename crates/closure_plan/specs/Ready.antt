-- What is made before a shard is taken in.
use Rattle.std.specs.Prelude.{◌≡◌, ℕ, ◌+◌, ◌*◌, ◌≤◌, List, [], ◌++◌, length}
use Rattle.shard_file.specs.Rows.{Row}
use Rattle.closure_plan.specs.declared.plan.giving.Ready.{Ready}
use Rattle.closure_plan.specs.Names.{Name}
use Rattle.closure_request.specs.Request.{Asking}
use Rattle.closure_request.specs.Slots.{slots}
use Rattle.closure_plan.specs.Plan.{name_at}
use Rattle.closure_plan.specs.Fresh.{Grows}
use Rattle.closure_plan.specs.Giving.{reached_by}

-- a copy of the name, the names that the rows reach and that aren't listed, and the room for marks with them
pub record IsReady (r : Asking) (names : List Name) (s k : ℕ) (rows : List Row) (ready : Ready) : Type 0 where
  pub name : ready.name ≡ name_at names k
  pub grows : Grows names [] ready.fresh.items (reached_by r s (name_at names k) rows)
  pub room : (length (names ++ ready.fresh.items) + 1) * length (slots r) ≤ ready.room
