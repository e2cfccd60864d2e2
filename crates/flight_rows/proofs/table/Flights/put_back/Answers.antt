use Rattle.std.proofs.Common.{None, length, sym, ap, ◌∙◌, subst}
use Rattle.flight_rows.specs.Sight.{Sight}
use Rattle.flight_rows.specs.Sight.{hand_in}
use Rattle.flight_rows.specs.Rows.{IsAimed, hand_of}
use Rattle.flight_journal.specs.State.{Flies}
use Rattle.flight_journal.specs.Journal.{after}
use Rattle.flight_rows.proofs.TakeLemmas.{some_row, moves, back}
use Rattle.flight_rows.proofs.table.Flights.put_back.Goals as goal

pub put_at-requires : goal.put_at-requires
put_at-requires g c = some_row c.self.inside.rows c.args.f c.args.query (ap (λ (s : Sight). hand_in s.hands c.args.f) c.self.view_is ∙ c.requires.held)

pub invariant_of-self : goal.invariant_of-self
invariant_of-self g c =
    let v = c.self.view_is in (
      back _ _ _ _ _ _ _ _ _ _ _ _ _ _ _ _ c.args.f c.args.query c.args.parcel c.self.invariant.0 (ap (λ (s : Sight). hand_in s.hands c.args.f) v ∙ c.requires.held)
          (λ t flies. subst (λ (s : Sight). IsAimed g.D.Link.Conn.facts g.D.Link.Conn.from (length s.start) s.origin c.args.f t c.args.parcel) (sym v) (c.requires.aimed t (subst (λ (s : Sight). Flies (after s.journal) c.args.f t) v flies)))
          c.put_at.ensures,
      c.self.invariant.1,
    )

pub returns-clause-hand : goal.returns-clause-hand
returns-clause-hand g c =
    let hands = moves c.args.f _ c.self.inside.rows c.put_at.new.rows None c.put_at.ensures (ap (λ r. hand_of r.at) c.put_at.ensures.so) in
    record { here = hands.0; others = λ n ne. hands.1 n ne ∙ ap (λ (s : Sight). hand_in s.hands n) c.self.view_is }
