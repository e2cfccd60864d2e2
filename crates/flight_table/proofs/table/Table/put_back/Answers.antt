use Rattle.std.proofs.Common.{Some, ap, ◌∙◌, sym}
use Rattle.flight_rows.specs.Rows.{IsAimed}
use Rattle.flight_table.specs.Facts.{Facts, freed_pass}
use Rattle.flight_table.proofs.PassLemmas.{freed_follows}
use Rattle.flight_table.proofs.CallLemmas.{before, so_behind, follows_as, covers, parcel_aimed}
use Rattle.flight_table.proofs.table.Table.put_back.Goals as goal

pub put_back-requires-clause-held : goal.put_back-requires-clause-held
put_back-requires-clause-held g c = λ lifetimes outlives.
    let k = before c.self.inside.flights c.self.inside.book c.pass.inside.told c.agree.new.told c.self.invariant c.agree.ensures.line c.agree.ensures.told in
    let held = ap (λ (p : Facts). p.hand) (c.agree.ensures.told ∙ c.pass.view_is) ∙ c.requires.hand in
    k.hand c.args.f held ∙ ap Some (sym c.query.ensures)

pub record_change-requires-after_bounds : goal.record_change-requires-after_bounds
record_change-requires-after_bounds g c = λ lifetimes outlives.
    let k = before c.self.inside.flights c.self.inside.book c.pass.inside.told c.agree.new.told c.self.invariant c.agree.ensures.line c.agree.ensures.told in
    let held = ap (λ (p : Facts). p.hand) (c.agree.ensures.told ∙ c.pass.view_is) ∙ c.requires.hand in
    let f = freed_follows c.self.inside.flights c.put_back.new.self c.agree.new.told c.args.f c.put_back.ensures.writes c.put_back.ensures.hand c.tell-2.ensures k held in
    f.now

pub invariant_of-self : goal.invariant_of-self
invariant_of-self g c =
    let k = before c.self.inside.flights c.self.inside.book c.pass.inside.told c.agree.new.told c.self.invariant c.agree.ensures.line c.agree.ensures.told in
    let held = ap (λ (p : Facts). p.hand) (c.agree.ensures.told ∙ c.pass.view_is) ∙ c.requires.hand in
    let f = freed_follows c.self.inside.flights c.put_back.new.self c.agree.new.told c.args.f c.put_back.ensures.writes c.put_back.ensures.hand c.tell-2.ensures k held in
    so_behind c.self.inside.flights c.put_back.new.self c.self.inside.book c.agree.new.book c.record_change.new.book c.agree.new.told (freed_pass c.agree.new.told) c.record_change.new.told c.agree.ensures.lines c.record_change.ensures.told c.record_change.ensures.line f c.self.invariant

pub invariant_of-pass : goal.invariant_of-pass
invariant_of-pass g c =
    let less = covers c.pass.inside.entered.items c.agree.new.told c.pass.inside.told (freed_pass c.agree.new.told) c.agree.ensures.told c.pass.invariant.1 (λ n t among. among) in
    rw c.record_change.ensures.told (c.pass.invariant.0, less)

pub returns-clause-follows : goal.returns-clause-follows
returns-clause-follows g c =
    let k = before c.self.inside.flights c.self.inside.book c.pass.inside.told c.agree.new.told c.self.invariant c.agree.ensures.line c.agree.ensures.told in
    let held = ap (λ (p : Facts). p.hand) (c.agree.ensures.told ∙ c.pass.view_is) ∙ c.requires.hand in
    let f = freed_follows c.self.inside.flights c.put_back.new.self c.agree.new.told c.args.f c.put_back.ensures.writes c.put_back.ensures.hand c.tell-2.ensures k held in
    follows_as c.self.inside.flights c.args.self.now c.put_back.new.self c.agree.new.told c.args.pass.now (freed_pass c.agree.new.told) c.record_change.new.told c.self.view_is (c.agree.ensures.told ∙ c.pass.view_is) c.record_change.ensures.told f

pub put_back-requires-clause-aimed : goal.put_back-requires-clause-aimed
put_back-requires-clause-aimed g c = λ lifetimes outlives. parcel_aimed (IsAimed g.D.Link.Conn.facts g.D.Link.Conn.from) c.self.inside.flights c.agree.new.told c.args.pass.now c.args.f c.args.parcel (before c.self.inside.flights c.self.inside.book c.pass.inside.told c.agree.new.told c.self.invariant c.agree.ensures.line c.agree.ensures.told) (c.agree.ensures.told ∙ c.pass.view_is) c.requires.aimed
