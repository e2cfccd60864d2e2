use Rattle.std.proofs.Common.{Some, ap, ◌∙◌, refl, sym}
use Rattle.flight_table.specs.Facts.{Facts, lost_pass, awaits_but}
use Rattle.flight_table.proofs.AwaitsLemmas.{but_only}
use Rattle.flight_table.proofs.PassLemmas.{held_open, held_awaited, lost_follows}
use Rattle.flight_table.proofs.SaysLemmas.{parts_says}
use Rattle.flight_table.proofs.CallLemmas.{before, so_behind, follows_as, parts_as, covers, lost_as, open_as}
use Rattle.flight_table.proofs.table.Table.lose.Goals as goal

pub lose-requires-clause-open : goal.lose-requires-clause-open
lose-requires-clause-open g c = λ lifetimes outlives.
    let k = before c.self.inside.flights c.self.inside.book c.pass.inside.told c.agree.new.told c.self.invariant c.agree.ensures.line c.agree.ensures.told in
    let held = ap (λ (p : Facts). p.hand) (c.agree.ensures.told ∙ c.pass.view_is) ∙ c.requires.hand in
    open_as c.self.inside.flights c.query.result c.agree.new.told c.query.ensures (held_open c.self.inside.flights c.agree.new.told c.args.f c.tell.ensures k held)

pub lose-requires-clause-held : goal.lose-requires-clause-held
lose-requires-clause-held g c = λ lifetimes outlives.
    let k = before c.self.inside.flights c.self.inside.book c.pass.inside.told c.agree.new.told c.self.invariant c.agree.ensures.line c.agree.ensures.told in
    let held = ap (λ (p : Facts). p.hand) (c.agree.ensures.told ∙ c.pass.view_is) ∙ c.requires.hand in
    k.hand c.args.f held ∙ ap Some (sym c.query.ensures)

pub record_change-requires-after_bounds : goal.record_change-requires-after_bounds
record_change-requires-after_bounds g c = λ lifetimes outlives.
    let k = before c.self.inside.flights c.self.inside.book c.pass.inside.told c.agree.new.told c.self.invariant c.agree.ensures.line c.agree.ensures.told in
    let held = ap (λ (p : Facts). p.hand) (c.agree.ensures.told ∙ c.pass.view_is) ∙ c.requires.hand in
    let f = lost_follows c.self.inside.flights c.lose.new.self c.agree.new.told c.args.f (lost_as c.self.inside.flights c.lose.new.self c.query.result c.args.f c.agree.new.told c.query.ensures c.lose.ensures.writes) c.lose.ensures.hand c.tell-2.ensures k held in
    f.now

pub invariant_of-self : goal.invariant_of-self
invariant_of-self g c =
    let k = before c.self.inside.flights c.self.inside.book c.pass.inside.told c.agree.new.told c.self.invariant c.agree.ensures.line c.agree.ensures.told in
    let held = ap (λ (p : Facts). p.hand) (c.agree.ensures.told ∙ c.pass.view_is) ∙ c.requires.hand in
    let f = lost_follows c.self.inside.flights c.lose.new.self c.agree.new.told c.args.f (lost_as c.self.inside.flights c.lose.new.self c.query.result c.args.f c.agree.new.told c.query.ensures c.lose.ensures.writes) c.lose.ensures.hand c.tell-2.ensures k held in
    so_behind c.self.inside.flights c.lose.new.self c.self.inside.book c.agree.new.book c.record_change.new.book c.agree.new.told (lost_pass (awaits_but c.args.f c.agree.new.told.awaits) c.agree.new.told) c.record_change.new.told c.agree.ensures.lines c.record_change.ensures.told c.record_change.ensures.line f c.self.invariant

pub invariant_of-pass : goal.invariant_of-pass
invariant_of-pass g c =
    let less = covers c.pass.inside.entered.items c.agree.new.told c.pass.inside.told (lost_pass (awaits_but c.args.f c.agree.new.told.awaits) c.agree.new.told) c.agree.ensures.told c.pass.invariant.1 (λ n t among. (but_only c.args.f n t c.agree.new.told.awaits among).0) in
    rw c.record_change.ensures.told (c.pass.invariant.0, less)

pub returns-clause-loses : goal.returns-clause-loses
returns-clause-loses g c =
    let k = before c.self.inside.flights c.self.inside.book c.pass.inside.told c.agree.new.told c.self.invariant c.agree.ensures.line c.agree.ensures.told in
    let held = ap (λ (p : Facts). p.hand) (c.agree.ensures.told ∙ c.pass.view_is) ∙ c.requires.hand in
    let w = held_awaited c.self.inside.flights c.agree.new.told c.args.f c.tell.ensures k held in
    parts_as c.args.f (λ p rest. lost_pass rest p) c.agree.new.told c.args.pass.now _ c.record_change.new.told (c.agree.ensures.told ∙ c.pass.view_is) c.record_change.ensures.told
    (parts_says c.agree.new.told c.args.f (λ rest. lost_pass rest c.agree.new.told) w.0 k.knows.awaits_once w.1 (λ l. refl))

pub returns-clause-follows : goal.returns-clause-follows
returns-clause-follows g c =
    let k = before c.self.inside.flights c.self.inside.book c.pass.inside.told c.agree.new.told c.self.invariant c.agree.ensures.line c.agree.ensures.told in
    let held = ap (λ (p : Facts). p.hand) (c.agree.ensures.told ∙ c.pass.view_is) ∙ c.requires.hand in
    let f = lost_follows c.self.inside.flights c.lose.new.self c.agree.new.told c.args.f (lost_as c.self.inside.flights c.lose.new.self c.query.result c.args.f c.agree.new.told c.query.ensures c.lose.ensures.writes) c.lose.ensures.hand c.tell-2.ensures k held in
    follows_as c.self.inside.flights c.args.self.now c.lose.new.self c.agree.new.told c.args.pass.now (lost_pass (awaits_but c.args.f c.agree.new.told.awaits) c.agree.new.told) c.record_change.new.told c.self.view_is (c.agree.ensures.told ∙ c.pass.view_is) c.record_change.ensures.told f
