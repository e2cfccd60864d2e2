use Rattle.std.proofs.Common.{subst}
use Rattle.flight_rows.specs.Sight.{Sight}
use Rattle.flight_rows.specs.Serves.{Refreshes}
use Rattle.flight_table.specs.Doors.{TellsDoor}
use Rattle.flight_table.specs.Follows.{Stays}
use Rattle.flight_table.proofs.CallLemmas.{refresh_all}
use Rattle.flight_table.proofs.table.Table.refresh.Goals as goal

pub invariant_of-self : goal.invariant_of-self
invariant_of-self g c = (refresh_all c.self.inside.flights c.refresh-given_up.new.self c.self.inside.book c.mark_door.new.book c.args.url c.refresh-given_up.result c.args.door.now c.mark_door.new.door c.refresh-given_up.ensures c.tell-2.ensures c.mark_door.ensures.door c.mark_door.ensures.line c.self.invariant).so

pub returns-clause-writes : goal.returns-clause-writes
returns-clause-writes g c = subst (λ (s : Sight). Refreshes c.args.url s c.refresh-given_up.new.self c.refresh-given_up.result) c.self.view_is c.refresh-given_up.ensures

pub returns-clause-stays : goal.returns-clause-stays
returns-clause-stays g c = subst (λ (s : Sight). Stays s c.refresh-given_up.new.self) c.self.view_is (refresh_all c.self.inside.flights c.refresh-given_up.new.self c.self.inside.book c.mark_door.new.book c.args.url c.refresh-given_up.result c.args.door.now c.mark_door.new.door c.refresh-given_up.ensures c.tell-2.ensures c.mark_door.ensures.door c.mark_door.ensures.line c.self.invariant).stays

pub returns-clause-door : goal.returns-clause-door
returns-clause-door g c =
    let w = refresh_all c.self.inside.flights c.refresh-given_up.new.self c.self.inside.book c.mark_door.new.book c.args.url c.refresh-given_up.result c.args.door.now c.mark_door.new.door c.refresh-given_up.ensures c.tell-2.ensures c.mark_door.ensures.door c.mark_door.ensures.line c.self.invariant in
    (c.mark_door.ensures.door, subst (λ (s : Sight). TellsDoor s c.args.door.now) c.self.view_is w.old_door, w.new_door)
