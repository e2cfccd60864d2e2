use Rattle.std.proofs.Common.{◌≡◌, ◌≤◌}
use Rattle.store_closure.specs.Stops.{IsUnderWay}
use Rattle.store_closure.proofs.run.closure_over.Given as goal

abbrev pub invariant-loop : goal.invariant-loop
invariant-loop g l =
    IsUnderWay (g.S.Store.files l.initial.store) l.fn.request l.plan × (g.S.Store.files l.store ≡ g.S.Store.files l.initial.store)
    × (g.S.Store.faults l.initial.store ≤ g.S.Store.faults l.store)
