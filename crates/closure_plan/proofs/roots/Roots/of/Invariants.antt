use Rattle.closure_plan.specs.Roots.{AreRoots}
use Rattle.closure_plan.proofs.roots.Roots.of.Given as goal

abbrev pub invariant-loop-i : goal.invariant-loop-i
invariant-loop-i l = AreRoots l.specs l.i l.roots
