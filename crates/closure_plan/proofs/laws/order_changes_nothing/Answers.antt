use Rattle.closure_plan.proofs.ArrivalLemmas.{closure_in_world}
use Rattle.closure_plan.proofs.LawLemmas.{same_order}
use Rattle.closure_plan.proofs.laws.order_changes_nothing.Goals as goal

pub returns-clause-order : goal.returns-clause-order
returns-clause-order c = same_order

pub returns-clause-world : goal.returns-clause-world
returns-clause-world c = λ r pins world_pins leaves world same_lists same_rows. closure_in_world r pins world_pins leaves world same_lists same_rows
