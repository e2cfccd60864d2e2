use Rattle.flight_table.proofs.CallLemmas.{split_all}
use Rattle.flight_table.proofs.table.Table.split_door.Goals as goal

pub invariant_of-self : goal.invariant_of-self
invariant_of-self g c = split_all c.self.inside.flights c.self.inside.book c.agree_door.new.book c.split-part.new.book c.mark_door.new.book c.args.door.now c.agree_door.new.door c.split-part.result c.mark_door.new.door c.requires c.agree_door.ensures.lines c.agree_door.ensures.door c.agree_door.ensures.line c.split-part.ensures.door c.split-part.ensures.lines c.mark_door.ensures.door c.mark_door.ensures.line c.self.invariant
