use Rattle.std.proofs.Common.{[], ◌∷◌, ◌++◌, ◌-◌, sym, ap, ◌∙◌, subst, append-nil, arith}
use Rattle.flight_rows.specs.Sight.{Sight}
use Rattle.flight_journal.specs.declared.entry.Entry.TheVariants.{Lost}
use Rattle.flight_rows.specs.Sight.{hand_in}
use Rattle.flight_journal.specs.State.{IsOpen}
use Rattle.flight_journal.specs.Journal.{after}
use Rattle.flight_rows.proofs.TakeLemmas.{some_row, some_owed, loses, moves_out}
use Rattle.flight_rows.proofs.table.Flights.lose.Goals as goal

pub end_row-requires : goal.end_row-requires
end_row-requires g c = some_row c.self.inside.rows c.args.f c.args.query (ap (λ (s : Sight). hand_in s.hands c.args.f) c.self.view_is ∙ c.requires.held)

pub overflow_sub-self : goal.overflow_sub-self
overflow_sub-self g c =
    let o = some_owed _ _ _ _ _ _ _ _ _ _ _ _ _ _ _ c.args.f c.args.query c.self.invariant.0 (ap (λ (s : Sight). hand_in s.hands c.args.f) c.self.view_is ∙ c.requires.held) in
    o.0

pub write-requires : goal.write-requires
write-requires g c =
    let o = some_owed _ _ _ _ _ _ _ _ _ _ _ _ _ _ _ c.args.f c.args.query c.self.invariant.0 (ap (λ (s : Sight). hand_in s.hands c.args.f) c.self.view_is ∙ c.requires.held) in
    omega (arith, o.0, o.1)

pub invariant_of-self : goal.invariant_of-self
invariant_of-self g c =
    let v = c.self.view_is in
    let held = ap (λ (s : Sight). hand_in s.hands c.args.f) v ∙ c.requires.held in
    let o = some_owed _ _ _ _ _ _ _ _ _ _ _ _ _ _ _ c.args.f c.args.query c.self.invariant.0 held in
    let alive = subst (λ (s : Sight). IsOpen (after s.journal) c.args.query) (sym v) c.requires.open in
    let e = c.end_row.ensures in
    let k = c.keys_are_told_apart.ensures in
    rw (c.write.ensures.entries, c.write.ensures.room)
    (loses _ _ _ _ _ _ _ k.apart k.same _ c.self.inside.rows c.end_row.new.rows c.self.inside.keys c.end_row.new.keys _ _ _ _ c.self.inside.owed (c.self.inside.owed - 1) c.args.f c.args.query e.0 c.self.invariant.0 c.self.invariant.1 alive held e.1 e.2 e.3 (omega (arith, o.0)))

pub returns-clause-writes : goal.returns-clause-writes
returns-clause-writes g c =
    let v = c.self.view_is in
    record { journal = c.write.ensures.entries ∙ ap (λ (s : Sight). s.journal ++ Lost c.args.query c.args.f ∷ []) v; dialed = ap (λ (s : Sight). s.dialed) v ∙ sym (append-nil _); keep = ap (λ (s : Sight). s.keep) v; start = ap (λ (s : Sight). s.start) v; origin = ap (λ (s : Sight). s.origin) v }

pub returns-clause-hand : goal.returns-clause-hand
returns-clause-hand g c =
    let hands = moves_out c.args.f c.self.inside.rows c.end_row.new.rows c.end_row.ensures.2 in
    record { here = hands.0; others = λ n ne. hands.1 n ne ∙ ap (λ (s : Sight). hand_in s.hands n) c.self.view_is }
