use Rattle.std.proofs.Common.{◌≡◌, length, ap, ◌∙◌, refl, sym, subst, inl, inr, ⊎_elim}
use Rattle.std.specs.List.Sorted.{IsStrictlyIncreasing}
use Rattle.flight_journal.specs.Count.{Among}
use Rattle.flight_rows.specs.Rows.{Comes}
use Rattle.flight_rows.specs.Serves.{Asks}
use Rattle.flight_table.specs.Facts.{Facts}
use Rattle.flight_table.specs.Saying.{said_by, asked_change}
use Rattle.flight_table.specs.Follows.{Follows, AskSays}
use Rattle.flight_table.specs.Tells.{Tells}
use Rattle.flight_table.proofs.AnswerLemmas.{ask_all, ask_covers}
use Rattle.flight_table.proofs.CallLemmas.{before, so_behind, follows_as, covers_none, open_as, live_open, apart_as, covers_more, covers_same}
use Rattle.flight_table.proofs.PassLemmas.{same_follows}
use Rattle.flight_table.proofs.table.Table.ask.Goals.{in-Some, in_default}
use Rattle.flight_table.proofs.table.Table.ask.Goals as goal

pub invariant_of-pass : goal.invariant_of-pass
invariant_of-pass g c = rw (c.reserve.ensures.items, c.agree.ensures.told) c.pass.invariant

pub returns-in_err-reserve-clause-follows : goal.returns-in_err-reserve-clause-follows
returns-in_err-reserve-clause-follows g c =
    let k = before c.self.inside.flights c.self.inside.book c.pass.inside.told c.agree.new.told c.self.invariant c.agree.ensures.line c.agree.ensures.told in
    follows_as c.self.inside.flights c.args.self.now c.self.inside.flights c.agree.new.told c.args.pass.now c.agree.new.told c.agree.new.told c.self.view_is (c.agree.ensures.told ∙ c.pass.view_is) refl (same_follows c.self.inside.flights c.agree.new.told k)

pub ask-requires-clause-open : goal.ask-requires-clause-open
ask-requires-clause-open g c = λ lifetimes outlives.
    let k = before c.self.inside.flights c.self.inside.book c.pass.inside.told c.agree.new.told c.self.invariant c.agree.ensures.line c.agree.ensures.told in
    let live = ap (λ (p : Facts). p.live) (c.agree.ensures.told ∙ c.pass.view_is) ∙ c.requires.live in
    open_as c.self.inside.flights c.query.result c.agree.new.told c.query.ensures (live_open c.self.inside.flights c.agree.new.told k live)

pub ask-requires-clause-apart : goal.ask-requires-clause-apart
ask-requires-clause-apart g c = λ lifetimes outlives.
    let k = before c.self.inside.flights c.self.inside.book c.pass.inside.told c.agree.new.told c.self.invariant c.agree.ensures.line c.agree.ensures.told in
    apart_as c.self.inside.flights c.args.self.now c.query.result c.agree.new.told c.args.pass.now c.args.target.now c.query.ensures c.self.view_is (c.agree.ensures.told ∙ c.pass.view_is) k c.requires.apart

pub invariant_of-pass-in_err-asked : goal.invariant_of-pass-in_err-asked
invariant_of-pass-in_err-asked g c = rw (c.reserve.ensures.items, c.agree.ensures.told) c.pass.invariant

pub returns-in_err-asked-clause-follows : goal.returns-in_err-asked-clause-follows
returns-in_err-asked-clause-follows g c =
    let k = before c.self.inside.flights c.self.inside.book c.pass.inside.told c.agree.new.told c.self.invariant c.agree.ensures.line c.agree.ensures.told in
    subst (λ s. Follows c.args.self.now s c.args.pass.now c.agree.new.told) (sym c.in_err-asked.ensures.err)
    (follows_as c.self.inside.flights c.args.self.now c.self.inside.flights c.agree.new.told c.args.pass.now c.agree.new.told c.agree.new.told c.self.view_is (c.agree.ensures.told ∙ c.pass.view_is) refl (same_follows c.self.inside.flights c.agree.new.told k))

pub record_change-requires-after_bounds : goal.record_change-requires-after_bounds
record_change-requires-after_bounds g c = λ lifetimes outlives.
    let k = before c.self.inside.flights c.self.inside.book c.pass.inside.told c.agree.new.told c.self.invariant c.agree.ensures.line c.agree.ensures.told in
    let asks = subst (λ n. Asks (Comes g.V.Landed.key g.V.Landed.size g.V.Landed.number g.V.Landed.from (length c.self.inside.flights.start) c.self.inside.flights.origin) n c.args.target.now c.self.inside.flights c.ask.new.self c.in_ok-asked.asked) c.query.ensures c.in_ok-asked.ensures.ok in
    let all = ask_all (Comes g.V.Landed.key g.V.Landed.size g.V.Landed.number g.V.Landed.from) c.self.inside.flights c.ask.new.self c.args.target.now c.agree.new.told c.in_ok-asked.asked c.requires.plain c.tell.ensures c.tell-2.ensures k asks in
    let said = ap (λ x. said_by x c.ask.new.self c.agree.new.told) c.asked_change.ensures in
    subst (Tells c.ask.new.self) (sym said) all.follows.now

pub invariant_of-self-2 : goal.invariant_of-self-2
invariant_of-self-2 g c =
    let k = before c.self.inside.flights c.self.inside.book c.pass.inside.told c.agree.new.told c.self.invariant c.agree.ensures.line c.agree.ensures.told in
    let asks = subst (λ n. Asks (Comes g.V.Landed.key g.V.Landed.size g.V.Landed.number g.V.Landed.from (length c.self.inside.flights.start) c.self.inside.flights.origin) n c.args.target.now c.self.inside.flights c.ask.new.self c.in_ok-asked.asked) c.query.ensures c.in_ok-asked.ensures.ok in
    let all = ask_all (Comes g.V.Landed.key g.V.Landed.size g.V.Landed.number g.V.Landed.from) c.self.inside.flights c.ask.new.self c.args.target.now c.agree.new.told c.in_ok-asked.asked c.requires.plain c.tell.ensures c.tell-2.ensures k asks in
    let said = ap (λ x. said_by x c.ask.new.self c.agree.new.told) c.asked_change.ensures in
    so_behind c.self.inside.flights c.ask.new.self c.self.inside.book c.agree.new.book c.record_change.new.book c.agree.new.told (said_by (asked_change c.in_ok-asked.asked) c.ask.new.self c.agree.new.told) c.record_change.new.told c.agree.ensures.lines (c.record_change.ensures.told ∙ said) c.record_change.ensures.line all.follows c.self.invariant

pub invariant_of-pass-in-Some : goal.invariant_of-pass-in-Some
invariant_of-pass-in-Some g c =
    let k = before c.self.inside.flights c.self.inside.book c.pass.inside.told c.agree.new.told c.self.invariant c.agree.ensures.line c.agree.ensures.told in
    let asks = subst (λ n. Asks (Comes g.V.Landed.key g.V.Landed.size g.V.Landed.number g.V.Landed.from (length c.self.inside.flights.start) c.self.inside.flights.origin) n c.args.target.now c.self.inside.flights c.ask.new.self c.in_ok-asked.asked) c.query.ensures c.in_ok-asked.ensures.ok in
    let all = ask_all (Comes g.V.Landed.key g.V.Landed.size g.V.Landed.number g.V.Landed.from) c.self.inside.flights c.ask.new.self c.args.target.now c.agree.new.told c.in_ok-asked.asked c.requires.plain c.tell.ensures c.tell-2.ensures k asks in
    let said = ap (λ x. said_by x c.ask.new.self c.agree.new.told) c.asked_change.ensures in (
      c.put.ensures.rising,
      covers_more c.reserve.new.self.items c.put.new.flights.items c.agree.new.told c.pass.inside.told c.record_change.new.told c.in-Some.f c.agree.ensures.told (covers_same c.pass.inside.entered.items c.reserve.new.self.items c.pass.inside.told c.reserve.ensures.items c.pass.invariant.1) c.put.ensures.here c.put.ensures.others
          (λ n u among. ⊎_elim (λ b. inl b) (λ e. inr (sym c.in-Some.is ∙ c.entered_in.ensures ∙ e)) (ask_covers c.ask.new.self c.agree.new.told c.in_ok-asked.asked n u (subst (λ (x : Facts). Among (n, u) x.awaits) (c.record_change.ensures.told ∙ said) among))),
    )

pub returns-clause-says : goal.returns-clause-says
returns-clause-says g c =
    let is : c.match-entered_in.pass ≡ c.record_change.new.told = elim c.match-entered_in.branch [ in-Some w ↦ w.pass-is | in_default w ↦ w.pass-is ] in
    let k = before c.self.inside.flights c.self.inside.book c.pass.inside.told c.agree.new.told c.self.invariant c.agree.ensures.line c.agree.ensures.told in
    let asks = subst (λ n. Asks (Comes g.V.Landed.key g.V.Landed.size g.V.Landed.number g.V.Landed.from (length c.self.inside.flights.start) c.self.inside.flights.origin) n c.args.target.now c.self.inside.flights c.ask.new.self c.in_ok-asked.asked) c.query.ensures c.in_ok-asked.ensures.ok in
    let all = ask_all (Comes g.V.Landed.key g.V.Landed.size g.V.Landed.number g.V.Landed.from) c.self.inside.flights c.ask.new.self c.args.target.now c.agree.new.told c.in_ok-asked.asked c.requires.plain c.tell.ensures c.tell-2.ensures k asks in
    let said = ap (λ x. said_by x c.ask.new.self c.agree.new.told) c.asked_change.ensures in
    let same = c.agree.ensures.told ∙ c.pass.view_is in
    subst (λ (x : Facts × Facts). AskSays (Comes g.V.Landed.key g.V.Landed.size g.V.Landed.number g.V.Landed.from x.0.base x.0.origin) c.args.target.now.key x.0 x.1 c.in_ok-asked.asked) (λ i. (same i, sym (is ∙ c.record_change.ensures.told ∙ said) i)) all.says

pub returns-clause-follows : goal.returns-clause-follows
returns-clause-follows g c =
    let is : c.match-entered_in.pass ≡ c.record_change.new.told = elim c.match-entered_in.branch [ in-Some w ↦ w.pass-is | in_default w ↦ w.pass-is ] in
    let k = before c.self.inside.flights c.self.inside.book c.pass.inside.told c.agree.new.told c.self.invariant c.agree.ensures.line c.agree.ensures.told in
    let asks = subst (λ n. Asks (Comes g.V.Landed.key g.V.Landed.size g.V.Landed.number g.V.Landed.from (length c.self.inside.flights.start) c.self.inside.flights.origin) n c.args.target.now c.self.inside.flights c.ask.new.self c.in_ok-asked.asked) c.query.ensures c.in_ok-asked.ensures.ok in
    let all = ask_all (Comes g.V.Landed.key g.V.Landed.size g.V.Landed.number g.V.Landed.from) c.self.inside.flights c.ask.new.self c.args.target.now c.agree.new.told c.in_ok-asked.asked c.requires.plain c.tell.ensures c.tell-2.ensures k asks in
    let said = ap (λ x. said_by x c.ask.new.self c.agree.new.told) c.asked_change.ensures in
    follows_as c.self.inside.flights c.args.self.now c.ask.new.self c.agree.new.told c.args.pass.now (said_by (asked_change c.in_ok-asked.asked) c.ask.new.self c.agree.new.told) c.match-entered_in.pass c.self.view_is (c.agree.ensures.told ∙ c.pass.view_is) (is ∙ c.record_change.ensures.told ∙ said) all.follows

pub invariant_of-pass-in_default : goal.invariant_of-pass-in_default
invariant_of-pass-in_default g c =
    let said = ap (λ x. said_by x c.ask.new.self c.agree.new.told) c.asked_change.ensures in (
      subst IsStrictlyIncreasing (sym c.reserve.ensures.items) c.pass.invariant.0,
      covers_none c.reserve.new.self.items c.agree.new.told c.pass.inside.told c.record_change.new.told c.agree.ensures.told (covers_same c.pass.inside.entered.items c.reserve.new.self.items c.pass.inside.told c.reserve.ensures.items c.pass.invariant.1)
          (λ n u among. ⊎_elim (λ b. inl b) (λ e. inr (sym c.in_default.is ∙ c.entered_in.ensures ∙ e)) (ask_covers c.ask.new.self c.agree.new.told c.in_ok-asked.asked n u (subst (λ (x : Facts). Among (n, u) x.awaits) (c.record_change.ensures.told ∙ said) among))),
    )
