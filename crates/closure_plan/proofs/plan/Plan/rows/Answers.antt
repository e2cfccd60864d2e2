use Rattle.std.proofs.Common.{sym, subst, [], flat_map}
use Rattle.std.specs.List.{range_with_len}
use Rattle.closure_plan.specs.Closure.{closure_in}
use Rattle.closure_plan.specs.Rows.{Adds}
use Rattle.closure_plan.specs.Plan.{its_pins, its_leaves}
use Rattle.closure_plan.proofs.RowLemmas.{adds_both, flat_map_more}
use Rattle.closure_plan.proofs.plan.Plan.rows.Goals as goal

pub loop-slot-preserved : goal.loop-slot-preserved
loop-slot-preserved g c =
    let r = c.args.self.now.known.request in
    let leaves = its_leaves g.P.PinHolder.contents g.H.LeafHolder.contents c.args.self.now.known in
    let f = closure_in r (its_pins g.P.PinHolder.contents g.H.LeafHolder.contents c.args.self.now.known) leaves in
    subst (Adds r leaves [] c.rows_in.new.rows.items) (sym (flat_map_more f c.loop-slot.slot))
    (adds_both r leaves [] c.loop-slot.rows.items c.rows_in.new.rows.items (flat_map f (range_with_len 0 c.loop-slot.slot)) (f c.loop-slot.slot) c.loop-slot.invariant c.in_ok-rows_in.ensures)
