use Rattle.std.proofs.Common.{[], ◌∷◌, ◌++◌, ◌-◌, sym, ap, ◌∙◌, subst, append-nil, arith}
use Rattle.shard_cache.specs.Recency.{Listing, is_listed}
use Rattle.flight_journal.specs.declared.entry.Entry.TheVariants.{Refreshed}
use Rattle.flight_journal.specs.State.{IsKept}
use Rattle.flight_journal.specs.Journal.{after}
use Rattle.flight_rows.specs.Sight.{Sight, hand_in}
use Rattle.flight_rows.proofs.KeptLemmas.{refreshes, kept_there, hands_evict, kept_no_hand}
use Rattle.flight_rows.proofs.table.Flights.give_up.Goals as goal

pub remove-requires : goal.remove-requires
remove-requires g c =
    let kept = subst (λ (s : Sight). IsKept (after s.journal) c.args.f c.requires.kept.1.0) (sym c.self.view_is) c.requires.kept.1.1 in
    ap (is_listed c.args.f) c.self.invariant.0.holds.kept_so ∙ kept.2

pub evict_row-requires : goal.evict_row-requires
evict_row-requires g c =
    let kept = subst (λ (s : Sight). IsKept (after s.journal) c.args.f c.requires.kept.1.0) (sym c.self.view_is) c.requires.kept.1.1 in
    (kept_there _ _ _ _ _ _ _ _ _ _ _ _ _ _ _ c.args.f c.self.invariant.0 (ap (is_listed c.args.f) c.self.invariant.0.holds.kept_so ∙ kept.2)).0

pub overflow_sub-self : goal.overflow_sub-self
overflow_sub-self g c =
    let kept = subst (λ (s : Sight). IsKept (after s.journal) c.args.f c.requires.kept.1.0) (sym c.self.view_is) c.requires.kept.1.1 in
    (kept_there _ _ _ _ _ _ _ _ _ _ _ _ _ _ _ c.args.f c.self.invariant.0 (ap (is_listed c.args.f) c.self.invariant.0.holds.kept_so ∙ kept.2)).1

pub write-requires : goal.write-requires
write-requires g c =
    let kept = subst (λ (s : Sight). IsKept (after s.journal) c.args.f c.requires.kept.1.0) (sym c.self.view_is) c.requires.kept.1.1 in
    let o = kept_there _ _ _ _ _ _ _ _ _ _ _ _ _ _ _ c.args.f c.self.invariant.0 (ap (is_listed c.args.f) c.self.invariant.0.holds.kept_so ∙ kept.2) in
    omega (arith, o.1, o.2)

pub invariant_of-self : goal.invariant_of-self
invariant_of-self g c =
    let v = c.self.view_is in
    let kept = subst (λ (s : Sight). IsKept (after s.journal) c.args.f c.requires.kept.1.0) (sym v) c.requires.kept.1.1 in
    let o = kept_there _ _ _ _ _ _ _ _ _ _ _ _ _ _ _ c.args.f c.self.invariant.0 (ap (is_listed c.args.f) c.self.invariant.0.holds.kept_so ∙ kept.2) in
    let k = c.keys_are_told_apart.ensures in
    let e = c.evict_row.ensures in
    let out = c.remove.ensures in
    rw (c.write.ensures.entries, c.write.ensures.room, ap (λ (l : Listing). l.rows) out, ap (λ (l : Listing). l.budget) out)
    (refreshes _ _ _ _ _ _ _ k.apart k.same _ c.self.inside.rows c.evict_row.new.rows c.self.inside.keys c.evict_row.new.keys _ _ _ _ _ c.self.inside.owed (c.self.inside.owed - 1) c.args.f e.1.0 c.requires.kept.1.0 c.requires.kept.0
    c.self.invariant.0 c.self.invariant.1 kept c.requires.kept.1.2 e.0 e.1.1 e.1.2 (ap (λ (l : Listing). l.order) out) (omega (arith, o.1)))

pub returns-clause-writes : goal.returns-clause-writes
returns-clause-writes g c =
    let v = c.self.view_is in
    record { journal = c.write.ensures.entries ∙ ap (λ (s : Sight). s.journal ++ Refreshed c.args.f ∷ []) v; dialed = ap (λ (s : Sight). s.dialed) v ∙ sym (append-nil _); keep = ap (λ (l : Listing). l.budget) c.remove.ensures ∙ ap (λ (s : Sight). s.keep) v; start = ap (λ (s : Sight). s.start) v; origin = ap (λ (s : Sight). s.origin) v }

pub returns-clause-hands : goal.returns-clause-hands
returns-clause-hands g c =
    let kept = subst (λ (s : Sight). IsKept (after s.journal) c.args.f c.requires.kept.1.0) (sym c.self.view_is) c.requires.kept.1.1 in
    let out = c.evict_row.ensures.0 in
    λ n. hands_evict c.args.f c.self.inside.rows c.evict_row.new.rows out (kept_no_hand _ _ (after c.self.inside.journal.entries) c.self.inside.rows c.args.f out.row c.self.invariant.0.holds.rows_fit out.was kept.2) n ∙ ap (λ (s : Sight). hand_in s.hands n) c.self.view_is
