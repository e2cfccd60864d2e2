use Rattle.std.proofs.Common.{refl, sym, ◌∙◌, inr}
use Rattle.flight_journal.proofs.LegalLemmas.{kept_apart}
use Rattle.flight_rows.proofs.table.Flights.refresh.Goals as goal

pub give_up-requires-clause-kept : goal.give_up-requires-clause-kept
give_up-requires-clause-kept g c = λ lifetimes outlives. (c.args.url, c.in-Kept.ensures)

pub returns-in-Kept : goal.returns-in-Kept
returns-in-Kept g c = (c.in-Kept.f, c.give_up.ensures.writes, c.give_up.ensures.hands, c.in-Kept.ensures)

pub returns-in-Flying : goal.returns-in-Flying
returns-in-Flying g c =
    let w = c.in-Flying.ensures in
    (refl, λ f u kept same. kept_apart c.args.self.now.keep f _ c.args.self.now.journal u w.0 c.tell.ensures.legal kept w.1 (same ∙ sym w.2))

pub returns : goal.returns
returns g c = (refl, λ f u kept. c.in-Free.ensures f u (inr kept))
