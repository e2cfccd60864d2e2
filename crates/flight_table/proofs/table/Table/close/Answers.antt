use Rattle.std.proofs.Common.{ap, ◌∙◌, refl, inr}
use Rattle.flight_journal.specs.declared.entry.Entry.TheVariants.{Closed}
use Rattle.flight_journal.proofs.ListLemmas.{none_in_nothing}
use Rattle.flight_table.specs.Facts.{Facts, left_pass}
use Rattle.flight_table.proofs.PassLemmas.{left_follows}
use Rattle.flight_table.proofs.CallLemmas.{before, so_behind, follows_as, closes_as, open_as, live_open, idle_as, awaited_as}
use Rattle.flight_table.proofs.table.Table.close.Goals as goal

pub close-requires-clause-open : goal.close-requires-clause-open
close-requires-clause-open g c = λ lifetimes outlives.
    let k = before c.self.inside.flights c.self.inside.book c.pass.inside.told c.agree.new.told c.self.invariant c.agree.ensures.line c.agree.ensures.told in
    let live = ap (λ (p : Facts). p.live) (c.agree.ensures.told ∙ c.pass.view_is) ∙ c.requires.live in
    open_as c.self.inside.flights c.query.result c.agree.new.told c.query.ensures (live_open c.self.inside.flights c.agree.new.told k live)

pub close-requires-clause-idle : goal.close-requires-clause-idle
close-requires-clause-idle g c = λ lifetimes outlives.
    let k = before c.self.inside.flights c.self.inside.book c.pass.inside.told c.agree.new.told c.self.invariant c.agree.ensures.line c.agree.ensures.told in
    let idle = ap (λ (p : Facts). p.hand) (c.agree.ensures.told ∙ c.pass.view_is) ∙ c.requires.idle in
    idle_as c.self.inside.flights c.query.result c.agree.new.told c.query.ensures k idle

pub close-requires-clause-awaited : goal.close-requires-clause-awaited
close-requires-clause-awaited g c = λ lifetimes outlives.
    let k = before c.self.inside.flights c.self.inside.book c.pass.inside.told c.agree.new.told c.self.invariant c.agree.ensures.line c.agree.ensures.told in
    awaited_as c.self.inside.flights c.query.result c.agree.new.told c.pass.inside.told c.pass.inside.entered.items c.deref.result.now c.deref.ensures.value c.query.ensures c.agree.ensures.told k c.pass.invariant.1

pub record_change-requires-after_bounds : goal.record_change-requires-after_bounds
record_change-requires-after_bounds g c = λ lifetimes outlives.
    let k = before c.self.inside.flights c.self.inside.book c.pass.inside.told c.agree.new.told c.self.invariant c.agree.ensures.line c.agree.ensures.told in
    let f = left_follows c.self.inside.flights c.close.new.self c.agree.new.told (Closed c.agree.new.told.query) (inr refl) refl (closes_as c.self.inside.flights c.close.new.self c.query.result c.agree.new.told c.query.ensures c.close.ensures.writes) c.close.ensures.hands c.tell-2.ensures k (record { opened = refl; cancelled = refl; refreshed = refl }) in
    f.now

pub invariant_of-self : goal.invariant_of-self
invariant_of-self g c =
    let k = before c.self.inside.flights c.self.inside.book c.pass.inside.told c.agree.new.told c.self.invariant c.agree.ensures.line c.agree.ensures.told in
    let f = left_follows c.self.inside.flights c.close.new.self c.agree.new.told (Closed c.agree.new.told.query) (inr refl) refl (closes_as c.self.inside.flights c.close.new.self c.query.result c.agree.new.told c.query.ensures c.close.ensures.writes) c.close.ensures.hands c.tell-2.ensures k (record { opened = refl; cancelled = refl; refreshed = refl }) in
    so_behind c.self.inside.flights c.close.new.self c.self.inside.book c.agree.new.book c.record_change.new.book c.agree.new.told (left_pass c.agree.new.told) c.record_change.new.told c.agree.ensures.lines c.record_change.ensures.told c.record_change.ensures.line f c.self.invariant

pub invariant_of-pass : goal.invariant_of-pass
invariant_of-pass g c = rw c.record_change.ensures.told (c.pass.invariant.0, λ n t among. absurd (none_in_nothing among.0 (n, t) among.1))

pub returns-clause-follows : goal.returns-clause-follows
returns-clause-follows g c =
    let k = before c.self.inside.flights c.self.inside.book c.pass.inside.told c.agree.new.told c.self.invariant c.agree.ensures.line c.agree.ensures.told in
    let f = left_follows c.self.inside.flights c.close.new.self c.agree.new.told (Closed c.agree.new.told.query) (inr refl) refl (closes_as c.self.inside.flights c.close.new.self c.query.result c.agree.new.told c.query.ensures c.close.ensures.writes) c.close.ensures.hands c.tell-2.ensures k (record { opened = refl; cancelled = refl; refreshed = refl }) in
    follows_as c.self.inside.flights c.args.self.now c.close.new.self c.agree.new.told c.args.pass.now (left_pass c.agree.new.told) c.record_change.new.told c.self.view_is (c.agree.ensures.told ∙ c.pass.view_is) c.record_change.ensures.told f
