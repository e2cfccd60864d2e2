use Rattle.std.proofs.Common.{◌≡◌, ℕ, length}
use Rattle.closure_plan.specs.Cells.{cell_at}
use Rattle.closure_plan.proofs.plan.giving.grow.Given as goal

abbrev pub invariant-loop-i : goal.invariant-loop-i
invariant-loop-i l = ((place : ℕ) → cell_at l.cells.items place ≡ cell_at l.initial.cells.items place) × (length l.cells.items ≡ l.i)
