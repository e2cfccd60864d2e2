use Rattle.std.proofs.Common.{refl, sym, subst}
use Rattle.flight_rows.specs.Sight.{Sight}
use Rattle.flight_rows.specs.Rows.{hands_of}
use Rattle.flight_rows.specs.Places.{Finds}
use Rattle.flight_rows.proofs.TakeLemmas.{finds_some}
use Rattle.flight_rows.proofs.table.Flights.place.Goals as goal

pub returns-in-Some : goal.returns-in-Some
returns-in-Some g c =
    let i = c.self.inside in
    let t : Sight = record { journal = i.journal.entries; keep = i.recent.budget; start = g.D.Dial.dialed i.start.value; dialed = g.D.Dial.dialed i.dial; origin = g.D.Dial.origin i.dial; hands = hands_of i.rows.entries } in
    subst (λ (t : Sight). Finds c.args.query c.args.f t c.place.result) c.self.view_is
    (finds_some _ _ c.args.query c.args.f t i.rows c.in-Some.row.now c.place.result c.self.invariant.0.holds.rows_fit refl (sym c.in-Some.ensures.value) c.place.ensures)
