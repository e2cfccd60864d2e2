-- What an answer has.
use Rattle.std.specs.Prelude.{List}
use Rattle.closure_plan.specs.Closure.{Found}
use Rattle.closure_plan.specs.Plan.{Known}

-- what an answer has: what the plan knew, and the rows in their order
pub record Answered (P H : Type 0) : Type 0 where
  pub known : Known P H
  pub rows : List Found
