use Rattle.std.proofs.Common.{◌<◌, length, sym, subst, arith}
use Rattle.closure_request.specs.Slots.{slots}
use Rattle.closure_plan.specs.Sources.{Sources}
use Rattle.closure_plan.proofs.sources.Sources.pin.Goals as goal

pub index_mut-requires : goal.index_mut-requires
index_mut-requires g c =
    let below : c.args.slot < length (slots c.self.inside.request) = subst (λ (s : Sources _). c.args.slot < length (slots s.request)) (sym c.self.view_is) c.requires in
    let each = c.self.invariant.1 in
    let len = c.self.inside.pins.ok.0 in
    omega (arith, below, each, len)
