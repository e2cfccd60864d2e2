use Rattle.closure_plan.proofs.NeedLemmas.{needs_counted, numbers_are}
use Rattle.closure_plan.proofs.plan.Plan.tell_needs.Goals as goal

pub returns : goal.returns
returns g c = record {
  are = numbers_are g.P.PinHolder.contents g.H.LeafHolder.contents c.args.self.now.known c.tell.ensures.reached;
  counted = needs_counted g.P.PinHolder.contents g.H.LeafHolder.contents c.args.self.now.known c.tell.ensures.reached;
}
