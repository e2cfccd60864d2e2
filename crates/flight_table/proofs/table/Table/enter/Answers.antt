use Rattle.std.proofs.Common.{subst}
use Rattle.flight_rows.specs.Sight.{Sight}
use Rattle.flight_table.specs.Doors.{TellsDoor}
use Rattle.flight_table.specs.Follows.{Enters}
use Rattle.flight_table.proofs.CallLemmas.{enter_all}
use Rattle.flight_table.proofs.table.Table.enter.Goals as goal

pub invariant_of-self-2 : goal.invariant_of-self-2
invariant_of-self-2 g c = (enter_all c.self.inside.flights c.enter.new.self c.self.inside.book c.agree_door.new.book c.begin_pass-told.new.book c.mark_door.new.book c.in_ok-query.query c.args.door.now c.agree_door.new.door c.mark_door.new.door c.begin_pass-told.result c.in_ok-query.ensures.ok c.in_ok-query.ensures.number c.tell-2.ensures c.agree_door.ensures.lines c.agree_door.ensures.door c.agree_door.ensures.line c.begin_pass-told.ensures.pass c.begin_pass-told.ensures.lines c.mark_door.ensures.door c.mark_door.ensures.line c.self.invariant).so

pub returns-clause-enters : goal.returns-clause-enters
returns-clause-enters g c = subst (λ (s : Sight). Enters s c.enter.new.self c.begin_pass-told.result) c.self.view_is (enter_all c.self.inside.flights c.enter.new.self c.self.inside.book c.agree_door.new.book c.begin_pass-told.new.book c.mark_door.new.book c.in_ok-query.query c.args.door.now c.agree_door.new.door c.mark_door.new.door c.begin_pass-told.result c.in_ok-query.ensures.ok c.in_ok-query.ensures.number c.tell-2.ensures c.agree_door.ensures.lines c.agree_door.ensures.door c.agree_door.ensures.line c.begin_pass-told.ensures.pass c.begin_pass-told.ensures.lines c.mark_door.ensures.door c.mark_door.ensures.line c.self.invariant).enters

pub returns-clause-door : goal.returns-clause-door
returns-clause-door g c =
    let w = enter_all c.self.inside.flights c.enter.new.self c.self.inside.book c.agree_door.new.book c.begin_pass-told.new.book c.mark_door.new.book c.in_ok-query.query c.args.door.now c.agree_door.new.door c.mark_door.new.door c.begin_pass-told.result c.in_ok-query.ensures.ok c.in_ok-query.ensures.number c.tell-2.ensures c.agree_door.ensures.lines c.agree_door.ensures.door c.agree_door.ensures.line c.begin_pass-told.ensures.pass c.begin_pass-told.ensures.lines c.mark_door.ensures.door c.mark_door.ensures.line c.self.invariant in
    (w.marked, subst (λ (s : Sight). TellsDoor s c.args.door.now) c.self.view_is w.old_door, w.new_door)
