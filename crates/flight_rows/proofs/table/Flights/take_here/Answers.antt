use Rattle.std.proofs.Common.{◌≡◌, Some, None, length, refl, sym, ap, ◌∙◌, subst, append-nil}
use Rattle.link_io.specs.Parcel.{Packed}
use Rattle.flight_rows.specs.Sight.{Sight}
use Rattle.flight_rows.specs.Rows.{IsAimed, hand_of, hands_of}
use Rattle.flight_journal.specs.State.{Flies}
use Rattle.flight_journal.specs.Journal.{after}
use Rattle.flight_rows.specs.Serves.{IsHere}
use Rattle.flight_rows.specs.Sight.{hand_in}
use Rattle.flight_rows.proofs.TakeLemmas.{taken, moves}
use Rattle.flight_rows.proofs.table.Flights.take_here.Goals as goal

pub unreachable-requires : goal.unreachable-requires
unreachable-requires g c =
    let here = subst (λ (t : Sight). IsHere c.args.query c.args.f t) (sym c.self.view_is) c.requires in
    let got = taken _ _ c.args.query c.args.f (record { journal = c.self.inside.journal.entries; keep = c.self.inside.recent.budget; start = g.D.Dial.dialed c.self.inside.start.value; dialed = g.D.Dial.dialed c.self.inside.dial; origin = g.D.Dial.origin c.self.inside.dial; hands = hands_of c.self.inside.rows.entries }) c.self.inside.rows c.take_parcel.new.rows c.take_parcel.result c.self.invariant.0.holds.rows_fit refl here c.take_parcel.ensures in
    let none : None ≡ Some got.2 = sym c.in-None.is ∙ got.3 in
    let bad : ⊥ = cc in
    bad

pub returns : goal.returns
returns g c =
    let v = c.self.view_is in
    let here = subst (λ (t : Sight). IsHere c.args.query c.args.f t) (sym v) c.requires in
    let got = taken _ _ c.args.query c.args.f (record { journal = c.self.inside.journal.entries; keep = c.self.inside.recent.budget; start = g.D.Dial.dialed c.self.inside.start.value; dialed = g.D.Dial.dialed c.self.inside.dial; origin = g.D.Dial.origin c.self.inside.dial; hands = hands_of c.self.inside.rows.entries }) c.self.inside.rows c.take_parcel.new.rows c.take_parcel.result c.self.invariant.0.holds.rows_fit refl here c.take_parcel.ensures in
    let hands = moves c.args.f _ c.self.inside.rows c.take_parcel.new.rows (Some c.args.query) c.take_parcel.ensures (ap hand_of got.4) in
    let some : Some got.2 ≡ Some c.in-Some.parcel = sym got.3 ∙ c.in-Some.is in
    let parcel : got.2 ≡ c.in-Some.parcel = cc in (
      record { journal = ap (λ (s : Sight). s.journal) v ∙ sym (append-nil _); dialed = ap (λ (s : Sight). s.dialed) v ∙ sym (append-nil _); keep = ap (λ (s : Sight). s.keep) v; start = ap (λ (s : Sight). s.start) v; origin = ap (λ (s : Sight). s.origin) v },
      record { here = hands.0; others = λ n ne. hands.1 n ne ∙ ap (λ (s : Sight). hand_in s.hands n) v },
      c.requires,
      (got.0.target, (subst (λ (s : Sight). Flies (after s.journal) c.args.f got.0.target) v (got.0, got.1, got.7, refl)), subst (λ (s : Sight). IsAimed g.D.Link.Conn.facts g.D.Link.Conn.from (length s.start) s.origin c.args.f got.0.target c.in-Some.parcel) v (subst (λ (p : Packed g.row.D-Link.Denot). IsAimed g.D.Link.Conn.facts g.D.Link.Conn.from (length (g.D.Dial.dialed c.self.inside.start.value)) (g.D.Dial.origin c.self.inside.dial) c.args.f got.0.target p) parcel got.5)),
    )
