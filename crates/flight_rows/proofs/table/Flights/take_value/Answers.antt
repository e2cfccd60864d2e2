use Rattle.std.proofs.Common.{[], ◌∷◌, ◌++◌, ◌-◌, length, sym, ap, ◌∙◌, subst, append-nil, arith}
use Rattle.flight_rows.specs.Sight.{Sight}
use Rattle.flight_journal.specs.declared.entry.Entry.TheVariants.{Taken}
use Rattle.flight_rows.specs.Serves.{HasLanded}
use Rattle.flight_rows.specs.Sight.{hand_in}
use Rattle.flight_rows.specs.Rows.{Comes}
use Rattle.flight_journal.specs.State.{IsOpen, IsOwed}
use Rattle.flight_journal.specs.Journal.{after}
use Rattle.flight_rows.proofs.LeaveLemmas.{owed_row, gives, hands_part, one_value}
use Rattle.flight_rows.proofs.table.Flights.take_value.Goals as goal

pub copy_value-requires : goal.copy_value-requires
copy_value-requires g c = let o = (owed_row _ _ _ _ _ _ _ _ _ _ _ _ _ _ _ c.args.query c.args.f c.self.invariant.0 (subst (λ (s : Sight). IsOwed (after s.journal) c.args.query c.args.f) (sym c.self.view_is) c.requires.owed)) in (o.0.0, o.0.1, (o.0.2.0, o.0.2.1))

pub overflow_sub-self : goal.overflow_sub-self
overflow_sub-self g c = (owed_row _ _ _ _ _ _ _ _ _ _ _ _ _ _ _ c.args.query c.args.f c.self.invariant.0 (subst (λ (s : Sight). IsOwed (after s.journal) c.args.query c.args.f) (sym c.self.view_is) c.requires.owed)).1

pub write-requires : goal.write-requires
write-requires g c = let o = (owed_row _ _ _ _ _ _ _ _ _ _ _ _ _ _ _ c.args.query c.args.f c.self.invariant.0 (subst (λ (s : Sight). IsOwed (after s.journal) c.args.query c.args.f) (sym c.self.view_is) c.requires.owed)) in omega (arith, o.1, o.2)

pub invariant_of-self : goal.invariant_of-self
invariant_of-self g c =
    let v = c.self.view_is in
    let o = (owed_row _ _ _ _ _ _ _ _ _ _ _ _ _ _ _ c.args.query c.args.f c.self.invariant.0 (subst (λ (s : Sight). IsOwed (after s.journal) c.args.query c.args.f) (sym c.self.view_is) c.requires.owed)) in
    let alive = subst (λ (s : Sight). IsOpen (after s.journal) c.args.query) (sym v) c.requires.open in
    let is = subst (λ (s : Sight). IsOwed (after s.journal) c.args.query c.args.f) (sym v) c.requires.owed in
    rw (c.write.ensures.entries, c.write.ensures.room)
    (gives _ _ _ _ _ _ _ _ c.self.inside.rows c.part_row.new.rows _ _ _ _ _ c.self.inside.owed (c.self.inside.owed - 1) c.args.query c.args.f c.self.invariant.0 c.self.invariant.1 alive is c.part_row.ensures.here c.part_row.ensures.others (omega (arith, o.1)))

pub returns : goal.returns
returns g c =
    let v = c.self.view_is in
    let o = (owed_row _ _ _ _ _ _ _ _ _ _ _ _ _ _ _ c.args.query c.args.f c.self.invariant.0 (subst (λ (s : Sight). IsOwed (after s.journal) c.args.query c.args.f) (sym c.self.view_is) c.requires.owed)) in
    let r = o.0 in
    let is = subst (λ (s : Sight). IsOwed (after s.journal) c.args.query c.args.f) (sym v) c.requires.owed in
    let value = one_value c.args.f c.self.inside.rows r.0 r.2.0 c.in-Ok.value.value r.1 r.2.1 c.in-Ok.ensures in (
      record { journal = c.write.ensures.entries ∙ ap (λ (s : Sight). s.journal ++ Taken c.args.query c.args.f ∷ []) v; dialed = ap (λ (s : Sight). s.dialed) v ∙ sym (append-nil _); keep = ap (λ (s : Sight). s.keep) v; start = ap (λ (s : Sight). s.start) v; origin = ap (λ (s : Sight). s.origin) v },
      (λ n. hands_part c.args.query c.args.f c.self.inside.rows c.part_row.new.rows r.0 r.2.0 r.1 r.2.1 c.part_row.ensures.here c.part_row.ensures.others n ∙ ap (λ (s : Sight). hand_in s.hands n) v),
      c.requires.owed,
      subst (λ (s : Sight). HasLanded (Comes g.V.Landed.key g.V.Landed.size g.V.Landed.number g.V.Landed.from (length s.start) s.origin c.args.f) c.args.f s c.in-Ok.value.value) v (is.0, is.1, r.2.2.0, r.2.2.1, rw value at r.2.2.2),
    )
