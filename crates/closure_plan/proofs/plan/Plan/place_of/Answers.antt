use Rattle.std.proofs.Common.{◌≡◌, ◌<◌, ◌≤◌, ◌+◌, ◌*◌, ◌^◌, length, sym, ap, subst, ◌∙◌, arith}
use Rattle.closure_request.specs.Slots.{slots}
use Rattle.closure_plan.specs.Plan.{Planned}
use Rattle.closure_plan.proofs.NumberLemmas.{place_low}
use Rattle.closure_plan.proofs.plan.Plan.place_of.Goals as goal

pub overflow_mul-place : goal.overflow_mul-place
overflow_mul-place g c =
    let name : c.args.n < length c.self.inside.names.items = subst (λ (s : Planned _ _). c.args.n < length s.known.names) (sym c.self.view_is) c.requires.name in
    let slot : c.args.slot < length (slots c.self.inside.sources.request) = subst (λ (s : Planned _ _). c.args.slot < length (slots s.known.request)) (sym c.self.view_is) c.requires.slot in
    let count : c.slots.result ≡ length (slots c.self.inside.sources.request) = c.slots.ensures.count ∙ sym (ap (λ (s : Planned _ _). length (slots s.known.request)) c.self.view_is) in
    let low = place_low (length c.self.inside.names.items) (length (slots c.self.inside.sources.request)) c.args.n c.args.slot c.capacity-room.result name slot (subst (λ k. (length c.self.inside.names.items + 1) * length (slots c.self.inside.sources.request) ≤ k) (sym c.capacity-room.ensures) c.self.invariant.0.room) in
    let most = c.capacity-room.type_inv in
    record { fits = subst (λ k. c.args.n * k < 2 ^ 64) (sym count) (omega (arith, low, most)) }

pub overflow_add-place : goal.overflow_add-place
overflow_add-place g c =
    let name : c.args.n < length c.self.inside.names.items = subst (λ (s : Planned _ _). c.args.n < length s.known.names) (sym c.self.view_is) c.requires.name in
    let slot : c.args.slot < length (slots c.self.inside.sources.request) = subst (λ (s : Planned _ _). c.args.slot < length (slots s.known.request)) (sym c.self.view_is) c.requires.slot in
    let count : c.slots.result ≡ length (slots c.self.inside.sources.request) = c.slots.ensures.count ∙ sym (ap (λ (s : Planned _ _). length (slots s.known.request)) c.self.view_is) in
    let low = place_low (length c.self.inside.names.items) (length (slots c.self.inside.sources.request)) c.args.n c.args.slot c.capacity-room.result name slot (subst (λ k. (length c.self.inside.names.items + 1) * length (slots c.self.inside.sources.request) ≤ k) (sym c.capacity-room.ensures) c.self.invariant.0.room) in
    let most = c.capacity-room.type_inv in
    record { fits = subst (λ k. c.args.n * k + c.args.slot < 2 ^ 64) (sym count) (omega (arith, low, most)) }
