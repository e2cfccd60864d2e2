use Rattle.std.proofs.Common.{ap, ◌∙◌, subst}
use Rattle.flight_rows.specs.Sight.{Sight}
use Rattle.flight_table.specs.Facts.{Facts}
use Rattle.flight_table.specs.Doors.{TellsDoor}
use Rattle.flight_table.specs.Follows.{LeavesTable}
use Rattle.flight_table.proofs.CallLemmas.{before, cancels_as, open_as, live_open, idle_as, awaited_as, cancelled_all}
use Rattle.flight_table.proofs.table.Table.cancel.Goals as goal

pub cancel-requires-clause-open : goal.cancel-requires-clause-open
cancel-requires-clause-open g c = λ lifetimes outlives.
    let k = before c.self.inside.flights c.self.inside.book c.pass.inside.told c.agree.new.told c.self.invariant c.agree.ensures.line c.agree.ensures.told in
    let live = ap (λ (p : Facts). p.live) (c.agree.ensures.told ∙ c.pass.view_is) ∙ c.requires.live in
    open_as c.self.inside.flights c.query.result c.agree.new.told c.query.ensures (live_open c.self.inside.flights c.agree.new.told k live)

pub cancel-requires-clause-idle : goal.cancel-requires-clause-idle
cancel-requires-clause-idle g c = λ lifetimes outlives.
    let k = before c.self.inside.flights c.self.inside.book c.pass.inside.told c.agree.new.told c.self.invariant c.agree.ensures.line c.agree.ensures.told in
    let idle = ap (λ (p : Facts). p.hand) (c.agree.ensures.told ∙ c.pass.view_is) ∙ c.requires.idle in
    idle_as c.self.inside.flights c.query.result c.agree.new.told c.query.ensures k idle

pub cancel-requires-clause-awaited : goal.cancel-requires-clause-awaited
cancel-requires-clause-awaited g c = λ lifetimes outlives.
    let k = before c.self.inside.flights c.self.inside.book c.pass.inside.told c.agree.new.told c.self.invariant c.agree.ensures.line c.agree.ensures.told in
    awaited_as c.self.inside.flights c.query.result c.agree.new.told c.pass.inside.told c.pass.inside.entered.items c.deref.result.now c.deref.ensures.value c.query.ensures c.agree.ensures.told k c.pass.invariant.1

pub invariant_of-self : goal.invariant_of-self
invariant_of-self g c =
    let k = before c.self.inside.flights c.self.inside.book c.pass.inside.told c.agree.new.told c.self.invariant c.agree.ensures.line c.agree.ensures.told in
    (cancelled_all c.self.inside.flights c.cancel.new.self c.self.inside.book c.agree.new.book c.end_pass.new.book c.mark_door.new.book c.agree.new.told c.args.door.now c.mark_door.new.door c.agree.ensures.lines c.end_pass.ensures.line c.mark_door.ensures.door c.mark_door.ensures.line
    (cancels_as c.self.inside.flights c.cancel.new.self c.query.result c.agree.new.told c.query.ensures c.cancel.ensures.writes) c.cancel.ensures.hands c.tell-2.ensures k c.self.invariant).so

pub returns-clause-leaves : goal.returns-clause-leaves
returns-clause-leaves g c =
    let k = before c.self.inside.flights c.self.inside.book c.pass.inside.told c.agree.new.told c.self.invariant c.agree.ensures.line c.agree.ensures.told in
    let w = cancelled_all c.self.inside.flights c.cancel.new.self c.self.inside.book c.agree.new.book c.end_pass.new.book c.mark_door.new.book c.agree.new.told c.args.door.now c.mark_door.new.door c.agree.ensures.lines c.end_pass.ensures.line c.mark_door.ensures.door c.mark_door.ensures.line
    (cancels_as c.self.inside.flights c.cancel.new.self c.query.result c.agree.new.told c.query.ensures c.cancel.ensures.writes) c.cancel.ensures.hands c.tell-2.ensures k c.self.invariant in
    subst (λ (x : Sight × Facts). LeavesTable x.0 c.cancel.new.self x.1) (λ i. (c.self.view_is i, (c.agree.ensures.told ∙ c.pass.view_is) i)) w.leaves

pub returns-clause-door : goal.returns-clause-door
returns-clause-door g c =
    let k = before c.self.inside.flights c.self.inside.book c.pass.inside.told c.agree.new.told c.self.invariant c.agree.ensures.line c.agree.ensures.told in
    let w = cancelled_all c.self.inside.flights c.cancel.new.self c.self.inside.book c.agree.new.book c.end_pass.new.book c.mark_door.new.book c.agree.new.told c.args.door.now c.mark_door.new.door c.agree.ensures.lines c.end_pass.ensures.line c.mark_door.ensures.door c.mark_door.ensures.line
    (cancels_as c.self.inside.flights c.cancel.new.self c.query.result c.agree.new.told c.query.ensures c.cancel.ensures.writes) c.cancel.ensures.hands c.tell-2.ensures k c.self.invariant in
    (c.mark_door.ensures.door, subst (λ (x : Sight). TellsDoor x c.args.door.now) c.self.view_is w.old_door, w.new_door)
