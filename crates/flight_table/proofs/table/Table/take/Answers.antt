use Rattle.std.proofs.Common.{length, ap, ◌∙◌, refl, sym, subst}
use Rattle.flight_rows.specs.Rows.{IsAimed, Comes}
use Rattle.flight_rows.specs.Serves.{Serves}
use Rattle.flight_table.specs.Facts.{Facts}
use Rattle.flight_table.specs.Saying.{said_by}
use Rattle.flight_table.specs.Follows.{TakeSays}
use Rattle.flight_table.proofs.AnswerLemmas.{TakeAll, take_all, changed_by}
use Rattle.flight_table.proofs.CallLemmas.{before, so_behind, follows_as, covers, open_as, live_open}
use Rattle.flight_table.proofs.table.Table.take.Goals as goal

pub take-drive-requires-clause-open : goal.take-drive-requires-clause-open
take-drive-requires-clause-open g c = λ lifetimes outlives.
    let k = before c.self.inside.flights c.self.inside.book c.pass.inside.told c.agree.new.told c.self.invariant c.agree.ensures.line c.agree.ensures.told in
    let live = ap (λ (p : Facts). p.live) (c.agree.ensures.told ∙ c.pass.view_is) ∙ c.requires.live in
    open_as c.self.inside.flights c.query.result c.agree.new.told c.query.ensures (live_open c.self.inside.flights c.agree.new.told k live)

pub record_change-requires-after_bounds : goal.record_change-requires-after_bounds
record_change-requires-after_bounds g c = λ lifetimes outlives.
    let k = before c.self.inside.flights c.self.inside.book c.pass.inside.told c.agree.new.told c.self.invariant c.agree.ensures.line c.agree.ensures.told in
    let idle = ap (λ (p : Facts). p.hand) (c.agree.ensures.told ∙ c.pass.view_is) ∙ c.requires.idle in
    let serves = subst (λ n. Serves (IsAimed g.D.Link.Conn.facts g.D.Link.Conn.from (length c.self.inside.flights.start) c.self.inside.flights.origin c.args.f) (Comes g.V.Landed.key g.V.Landed.size g.V.Landed.number g.V.Landed.from (length c.self.inside.flights.start) c.self.inside.flights.origin c.args.f) n c.args.f c.self.inside.flights c.take-drive.new.self c.take-drive.result) c.query.ensures c.take-drive.ensures in
    let all = take_all (IsAimed g.D.Link.Conn.facts g.D.Link.Conn.from) (Comes g.V.Landed.key g.V.Landed.size g.V.Landed.number g.V.Landed.from) g.V.Landed.size c.self.inside.flights c.take-drive.new.self c.agree.new.told c.args.f c.take-drive.result (λ b o n u z v so. so.sized) c.tell.ensures c.tell-2.ensures k idle serves in
    let it = subst (λ x. TakeAll (IsAimed g.D.Link.Conn.facts g.D.Link.Conn.from) (Comes g.V.Landed.key g.V.Landed.size g.V.Landed.number g.V.Landed.from) c.self.inside.flights c.take-drive.new.self c.args.f c.agree.new.told c.take-drive.result (changed_by x c.take-drive.new.self c.agree.new.told)) (sym c.taken_change.ensures ∙ c.in-Some.is) all in
    it.follows.now

pub invariant_of-self : goal.invariant_of-self
invariant_of-self g c =
    let k = before c.self.inside.flights c.self.inside.book c.pass.inside.told c.agree.new.told c.self.invariant c.agree.ensures.line c.agree.ensures.told in
    let idle = ap (λ (p : Facts). p.hand) (c.agree.ensures.told ∙ c.pass.view_is) ∙ c.requires.idle in
    let serves = subst (λ n. Serves (IsAimed g.D.Link.Conn.facts g.D.Link.Conn.from (length c.self.inside.flights.start) c.self.inside.flights.origin c.args.f) (Comes g.V.Landed.key g.V.Landed.size g.V.Landed.number g.V.Landed.from (length c.self.inside.flights.start) c.self.inside.flights.origin c.args.f) n c.args.f c.self.inside.flights c.take-drive.new.self c.take-drive.result) c.query.ensures c.take-drive.ensures in
    let all = take_all (IsAimed g.D.Link.Conn.facts g.D.Link.Conn.from) (Comes g.V.Landed.key g.V.Landed.size g.V.Landed.number g.V.Landed.from) g.V.Landed.size c.self.inside.flights c.take-drive.new.self c.agree.new.told c.args.f c.take-drive.result (λ b o n u z v so. so.sized) c.tell.ensures c.tell-2.ensures k idle serves in
    let it = subst (λ x. TakeAll (IsAimed g.D.Link.Conn.facts g.D.Link.Conn.from) (Comes g.V.Landed.key g.V.Landed.size g.V.Landed.number g.V.Landed.from) c.self.inside.flights c.take-drive.new.self c.args.f c.agree.new.told c.take-drive.result (changed_by x c.take-drive.new.self c.agree.new.told)) (sym c.taken_change.ensures ∙ c.in-Some.is) all in
    so_behind c.self.inside.flights c.take-drive.new.self c.self.inside.book c.agree.new.book c.record_change.new.book c.agree.new.told (said_by c.in-Some.change c.take-drive.new.self c.agree.new.told) c.record_change.new.told c.agree.ensures.lines c.record_change.ensures.told c.record_change.ensures.line it.follows c.self.invariant

pub invariant_of-pass : goal.invariant_of-pass
invariant_of-pass g c =
    let k = before c.self.inside.flights c.self.inside.book c.pass.inside.told c.agree.new.told c.self.invariant c.agree.ensures.line c.agree.ensures.told in
    let idle = ap (λ (p : Facts). p.hand) (c.agree.ensures.told ∙ c.pass.view_is) ∙ c.requires.idle in
    let serves = subst (λ n. Serves (IsAimed g.D.Link.Conn.facts g.D.Link.Conn.from (length c.self.inside.flights.start) c.self.inside.flights.origin c.args.f) (Comes g.V.Landed.key g.V.Landed.size g.V.Landed.number g.V.Landed.from (length c.self.inside.flights.start) c.self.inside.flights.origin c.args.f) n c.args.f c.self.inside.flights c.take-drive.new.self c.take-drive.result) c.query.ensures c.take-drive.ensures in
    let all = take_all (IsAimed g.D.Link.Conn.facts g.D.Link.Conn.from) (Comes g.V.Landed.key g.V.Landed.size g.V.Landed.number g.V.Landed.from) g.V.Landed.size c.self.inside.flights c.take-drive.new.self c.agree.new.told c.args.f c.take-drive.result (λ b o n u z v so. so.sized) c.tell.ensures c.tell-2.ensures k idle serves in
    let it = subst (λ x. TakeAll (IsAimed g.D.Link.Conn.facts g.D.Link.Conn.from) (Comes g.V.Landed.key g.V.Landed.size g.V.Landed.number g.V.Landed.from) c.self.inside.flights c.take-drive.new.self c.args.f c.agree.new.told c.take-drive.result (changed_by x c.take-drive.new.self c.agree.new.told)) (sym c.taken_change.ensures ∙ c.in-Some.is) all in
    let less = covers c.pass.inside.entered.items c.agree.new.told c.pass.inside.told (said_by c.in-Some.change c.take-drive.new.self c.agree.new.told) c.agree.ensures.told c.pass.invariant.1 it.less in
    rw c.record_change.ensures.told (c.pass.invariant.0, less)

pub invariant_of-pass-in_default : goal.invariant_of-pass-in_default
invariant_of-pass-in_default g c = rw c.agree.ensures.told c.pass.invariant

pub returns-in-Some-clause-says : goal.returns-in-Some-clause-says
returns-in-Some-clause-says g c =
    let k = before c.self.inside.flights c.self.inside.book c.pass.inside.told c.agree.new.told c.self.invariant c.agree.ensures.line c.agree.ensures.told in
    let idle = ap (λ (p : Facts). p.hand) (c.agree.ensures.told ∙ c.pass.view_is) ∙ c.requires.idle in
    let serves = subst (λ n. Serves (IsAimed g.D.Link.Conn.facts g.D.Link.Conn.from (length c.self.inside.flights.start) c.self.inside.flights.origin c.args.f) (Comes g.V.Landed.key g.V.Landed.size g.V.Landed.number g.V.Landed.from (length c.self.inside.flights.start) c.self.inside.flights.origin c.args.f) n c.args.f c.self.inside.flights c.take-drive.new.self c.take-drive.result) c.query.ensures c.take-drive.ensures in
    let all = take_all (IsAimed g.D.Link.Conn.facts g.D.Link.Conn.from) (Comes g.V.Landed.key g.V.Landed.size g.V.Landed.number g.V.Landed.from) g.V.Landed.size c.self.inside.flights c.take-drive.new.self c.agree.new.told c.args.f c.take-drive.result (λ b o n u z v so. so.sized) c.tell.ensures c.tell-2.ensures k idle serves in
    let it = subst (λ x. TakeAll (IsAimed g.D.Link.Conn.facts g.D.Link.Conn.from) (Comes g.V.Landed.key g.V.Landed.size g.V.Landed.number g.V.Landed.from) c.self.inside.flights c.take-drive.new.self c.args.f c.agree.new.told c.take-drive.result (changed_by x c.take-drive.new.self c.agree.new.told)) (sym c.taken_change.ensures ∙ c.in-Some.is) all in
    let same = c.agree.ensures.told ∙ c.pass.view_is in
    subst (λ (x : Facts × Facts). TakeSays (IsAimed g.D.Link.Conn.facts g.D.Link.Conn.from x.0.base x.0.origin) (Comes g.V.Landed.key g.V.Landed.size g.V.Landed.number g.V.Landed.from x.0.base x.0.origin) c.args.f x.0 x.1 c.take-drive.result) (λ i. (same i, sym c.record_change.ensures.told i)) it.says

pub returns-in-Some-clause-follows : goal.returns-in-Some-clause-follows
returns-in-Some-clause-follows g c =
    let k = before c.self.inside.flights c.self.inside.book c.pass.inside.told c.agree.new.told c.self.invariant c.agree.ensures.line c.agree.ensures.told in
    let idle = ap (λ (p : Facts). p.hand) (c.agree.ensures.told ∙ c.pass.view_is) ∙ c.requires.idle in
    let serves = subst (λ n. Serves (IsAimed g.D.Link.Conn.facts g.D.Link.Conn.from (length c.self.inside.flights.start) c.self.inside.flights.origin c.args.f) (Comes g.V.Landed.key g.V.Landed.size g.V.Landed.number g.V.Landed.from (length c.self.inside.flights.start) c.self.inside.flights.origin c.args.f) n c.args.f c.self.inside.flights c.take-drive.new.self c.take-drive.result) c.query.ensures c.take-drive.ensures in
    let all = take_all (IsAimed g.D.Link.Conn.facts g.D.Link.Conn.from) (Comes g.V.Landed.key g.V.Landed.size g.V.Landed.number g.V.Landed.from) g.V.Landed.size c.self.inside.flights c.take-drive.new.self c.agree.new.told c.args.f c.take-drive.result (λ b o n u z v so. so.sized) c.tell.ensures c.tell-2.ensures k idle serves in
    let it = subst (λ x. TakeAll (IsAimed g.D.Link.Conn.facts g.D.Link.Conn.from) (Comes g.V.Landed.key g.V.Landed.size g.V.Landed.number g.V.Landed.from) c.self.inside.flights c.take-drive.new.self c.args.f c.agree.new.told c.take-drive.result (changed_by x c.take-drive.new.self c.agree.new.told)) (sym c.taken_change.ensures ∙ c.in-Some.is) all in
    follows_as c.self.inside.flights c.args.self.now c.take-drive.new.self c.agree.new.told c.args.pass.now (said_by c.in-Some.change c.take-drive.new.self c.agree.new.told) c.record_change.new.told c.self.view_is (c.agree.ensures.told ∙ c.pass.view_is) c.record_change.ensures.told it.follows

pub returns-in_default-clause-follows : goal.returns-in_default-clause-follows
returns-in_default-clause-follows g c =
    let k = before c.self.inside.flights c.self.inside.book c.pass.inside.told c.agree.new.told c.self.invariant c.agree.ensures.line c.agree.ensures.told in
    let idle = ap (λ (p : Facts). p.hand) (c.agree.ensures.told ∙ c.pass.view_is) ∙ c.requires.idle in
    let serves = subst (λ n. Serves (IsAimed g.D.Link.Conn.facts g.D.Link.Conn.from (length c.self.inside.flights.start) c.self.inside.flights.origin c.args.f) (Comes g.V.Landed.key g.V.Landed.size g.V.Landed.number g.V.Landed.from (length c.self.inside.flights.start) c.self.inside.flights.origin c.args.f) n c.args.f c.self.inside.flights c.take-drive.new.self c.take-drive.result) c.query.ensures c.take-drive.ensures in
    let all = take_all (IsAimed g.D.Link.Conn.facts g.D.Link.Conn.from) (Comes g.V.Landed.key g.V.Landed.size g.V.Landed.number g.V.Landed.from) g.V.Landed.size c.self.inside.flights c.take-drive.new.self c.agree.new.told c.args.f c.take-drive.result (λ b o n u z v so. so.sized) c.tell.ensures c.tell-2.ensures k idle serves in
    let it = subst (λ x. TakeAll (IsAimed g.D.Link.Conn.facts g.D.Link.Conn.from) (Comes g.V.Landed.key g.V.Landed.size g.V.Landed.number g.V.Landed.from) c.self.inside.flights c.take-drive.new.self c.args.f c.agree.new.told c.take-drive.result (changed_by x c.take-drive.new.self c.agree.new.told)) (sym c.taken_change.ensures ∙ c.in_default.is) all in
    follows_as c.self.inside.flights c.args.self.now c.take-drive.new.self c.agree.new.told c.args.pass.now c.agree.new.told c.agree.new.told c.self.view_is (c.agree.ensures.told ∙ c.pass.view_is) refl it.follows
