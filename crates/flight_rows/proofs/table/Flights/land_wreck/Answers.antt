use Rattle.std.proofs.Common.{[], ◌∷◌, ◌++◌, ◌-◌, None, length, refl, sym, ap, ◌∙◌, subst, append-nil, arith}
use Rattle.std.specs.Option.{IsSome}
use Rattle.flight_journal.specs.declared.entry.Entry.TheVariants.{Landed}
use Rattle.flight_journal.specs.State.{IsOpen, Flies}
use Rattle.flight_journal.specs.Journal.{after}
use Rattle.flight_rows.specs.Sight.{Sight, hand_in}
use Rattle.flight_rows.specs.Rows.{Comes, hand_of}
use Rattle.flight_rows.proofs.TakeLemmas.{some_row, some_owed, moves}
use Rattle.flight_rows.proofs.KeptLemmas.{wrecks, hands_evict, landed_no_hand}
use Rattle.flight_rows.proofs.table.Flights.land_wreck.Goals as goal

pub land_row-requires : goal.land_row-requires
land_row-requires g c = some_row c.self.inside.rows c.args.f c.args.query (ap (λ (s : Sight). hand_in s.hands c.args.f) c.self.view_is ∙ c.requires.held)

pub evict_row-requires : goal.evict_row-requires
evict_row-requires g c = subst IsSome (sym c.land_row.ensures.is) refl

pub overflow_sub-self : goal.overflow_sub-self
overflow_sub-self g c = (some_owed _ _ _ _ _ _ _ _ _ _ _ _ _ _ _ c.args.f c.args.query c.self.invariant.0 (ap (λ (s : Sight). hand_in s.hands c.args.f) c.self.view_is ∙ c.requires.held)).0

pub write-requires : goal.write-requires
write-requires g c =
    let o = some_owed _ _ _ _ _ _ _ _ _ _ _ _ _ _ _ c.args.f c.args.query c.self.invariant.0 (ap (λ (s : Sight). hand_in s.hands c.args.f) c.self.view_is ∙ c.requires.held) in
    omega (arith, o.0, o.1)

pub invariant_of-self : goal.invariant_of-self
invariant_of-self g c =
    let v = c.self.view_is in
    let held = ap (λ (s : Sight). hand_in s.hands c.args.f) v ∙ c.requires.held in
    let o = some_owed _ _ _ _ _ _ _ _ _ _ _ _ _ _ _ c.args.f c.args.query c.self.invariant.0 held in
    let alive = subst (λ (s : Sight). IsOpen (after s.journal) c.args.query) (sym v) c.requires.open in
    let k = c.keys_are_told_apart.ensures in
    let e = c.evict_row.ensures in
    rw (c.write.ensures.entries, c.write.ensures.room)
    (wrecks _ _ _ _ _ _ _ k.apart k.same _ c.self.inside.rows c.land_row.new.rows c.evict_row.new.rows c.self.inside.keys c.evict_row.new.keys _ _ _ _ c.self.inside.owed (c.self.inside.owed - 1) c.args.f c.args.query c.args.value e.1.0
    c.self.invariant.0 c.self.invariant.1 alive held
    (λ t flies. subst (λ (s : Sight). Comes g.V.Landed.key g.V.Landed.size g.V.Landed.number g.V.Landed.from (length s.start) s.origin c.args.f t None c.args.value.value) (sym v) (c.requires.comes t (subst (λ (s : Sight). Flies (after s.journal) c.args.f t) v flies)))
    c.land_row.ensures e.0 e.1.1 e.1.2 (omega (arith, o.0)))

pub returns-clause-writes : goal.returns-clause-writes
returns-clause-writes g c =
    let v = c.self.view_is in (
      [],
      record { journal = c.write.ensures.entries ∙ ap (λ (s : Sight). s.journal ++ Landed c.args.query c.args.f None ∷ []) v; dialed = ap (λ (s : Sight). s.dialed) v ∙ sym (append-nil _); keep = ap (λ (s : Sight). s.keep) v; start = ap (λ (s : Sight). s.start) v; origin = ap (λ (s : Sight). s.origin) v },
    )

pub returns-clause-hand : goal.returns-clause-hand
returns-clause-hand g c =
    let change = c.land_row.ensures in
    let put = moves c.args.f _ c.self.inside.rows c.land_row.new.rows None change (ap hand_of change.so.2) in
    let out = hands_evict c.args.f c.land_row.new.rows c.evict_row.new.rows c.evict_row.ensures.0 (landed_no_hand c.args.f _ c.self.inside.rows c.land_row.new.rows c.evict_row.new.rows c.args.value change change.so.2 c.evict_row.ensures.0) in
    record { here = out c.args.f ∙ put.0; others = λ n ne. out n ∙ put.1 n ne ∙ ap (λ (s : Sight). hand_in s.hands n) c.self.view_is }
