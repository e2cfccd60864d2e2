use Rattle.std.proofs.Common.{◌∙◌, ap}
use Rattle.closure_plan.specs.Plan.{Planned}
use Rattle.store_closure.specs.Stops.{taken}
use Rattle.store_closure.proofs.FileLemmas.{pinned_taken}
use Rattle.store_closure.proofs.run.pin_one.Goals as goal

pub returns-clause-taken : goal.returns-clause-taken
returns-clause-taken c =
    ap (λ (p : Planned _ _). taken p.known) c.in_ok-pin.ensures.ok
    ∙ ap (λ (p : Planned _ _). taken (Rattle.closure_plan.specs.Giving.with_pin c.args.slot (record { 0 = c.args.index }) p.known)) c.mark.ensures
    ∙ pinned_taken c.args.plan.now.known c.args.slot (record { 0 = c.args.index })
