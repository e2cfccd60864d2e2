use Rattle.std.proofs.Common.{◌≡◌, ◌∙◌, not, sym, ap, true, rules}
use Rattle.std.specs.Prelude.{is_some}
use Rattle.std.specs.List.{list_all}
use Rattle.closure_request.specs.Slots.{numbers}
use Rattle.closure_plan.specs.Given.{wanted}
use Rattle.closure_plan.specs.Plan.{name_at, pins_of}
use Rattle.closure_plan.proofs.OwingLemmas.{owes_left, owes_put}
use Rattle.closure_plan.proofs.plan.giving.put_if_owed.Goals as goal

pub returns-then-is_unneeded-clause-owes : goal.returns-then-is_unneeded-clause-owes
returns-then-is_unneeded-clause-owes g c from old owes =
    let r = c.args.sources.now.request in
    let pins = pins_of g.P.PinHolder.contents c.args.sources.now.pins in
    let names = c.args.names.now in
    let none : list_all (λ s. not (is_some (wanted r pins s (name_at names c.args.n)))) (numbers r) ≡ true
    = ap (λ n. list_all (λ s. not (is_some (wanted r pins s n))) (numbers r)) (sym c.text_at.ensures) ∙ sym c.is_unneeded.ensures ∙ c.if-is_unneeded.true in
    owes_left r pins names from c.args.n old c.args.owing.now.items owes none

pub returns-clause-owes : goal.returns-clause-owes
returns-clause-owes g c from old owes =
    owes_put c.args.sources.now.request (pins_of g.P.PinHolder.contents c.args.sources.now.pins) c.args.names.now from c.args.n old c.args.owing.now.items c.put_number.new.order.items owes c.put_number.ensures.order
