use Rattle.std.proofs.Common.{◌≡◌, ◌∙◌, ap, sym, true}
use Rattle.closure_plan.specs.Plan.{Planned, has_need, pins_of}
use Rattle.closure_plan.proofs.AskLemmas.{marked_key}
use Rattle.closure_plan.proofs.plan.Plan.has_key.Goals as goal

pub returns-then-is_marked : goal.returns-then-is_marked
returns-then-is_marked g c =
    let now = c.args.self.now in
    let marked : has_need now.marked c.args.need ≡ true
    = sym (ap (λ (s : Planned _ _). has_need s.marked c.args.need) c.self.view_is) ∙ ap (λ ms. has_need ms c.args.need) (sym c.deref.ensures.value) ∙ sym c.is_marked.ensures ∙ c.if-is_marked.true in
    sym (marked_key now.known.request (pins_of g.P.PinHolder.contents now.known.pins) now.known.names c.args.need c.requires now.marked marked)
