use Rattle.flight_table.proofs.CallLemmas.{join_all}
use Rattle.flight_table.proofs.table.Table.join_door.Goals as goal

pub invariant_of-self : goal.invariant_of-self
invariant_of-self g c = join_all c.self.inside.flights c.self.inside.book c.join.new.book c.args.door.now c.args.other c.join.new.door c.join.ensures.door c.join.ensures.line c.self.invariant
