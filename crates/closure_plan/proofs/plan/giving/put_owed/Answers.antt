use Rattle.std.proofs.Common.{length, arith, rules}
use Rattle.closure_plan.specs.Plan.{pins_of}
use Rattle.closure_plan.proofs.OwingLemmas.{owes_end, owes_none}
use Rattle.closure_plan.proofs.plan.giving.put_owed.Goals as goal

pub loop-n-init : goal.loop-n-init
loop-n-init g c = (owes_none c.args.sources.now.request (pins_of g.P.PinHolder.contents c.args.sources.now.pins) c.args.names.now c.args.from c.args.owing.now.items, c.requires.room)

pub loop-n-preserved : goal.loop-n-preserved
loop-n-preserved g c = (
  c.put_if_owed.ensures.owes c.args.from c.args.owing.now.items c.loop-n.invariant.0,
  (let len = c.put_if_owed.ensures.len in let room = c.put_if_owed.ensures.capacity in let was = c.loop-n.invariant.1 in omega (arith, len, room, was)),
)

pub returns : goal.returns
returns g c = owes_end c.args.sources.now.request (pins_of g.P.PinHolder.contents c.args.sources.now.pins) c.args.names.now c.args.from c.loop-n.n c.args.owing.now.items c.loop-n.owing.items (search rules) c.loop-n.invariant.0
