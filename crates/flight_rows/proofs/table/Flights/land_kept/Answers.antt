use Rattle.std.proofs.Common.{[], ◌∷◌, List, ◌++◌, ◌-◌, Some, None, length, refl, sym, ap, ◌∙◌, subst, append-nil, append_assoc, arith}
use Rattle.shard_cache.specs.Recency.{Listing, is_listed}
use Rattle.shard_cache.proofs.OrderLemmas.{room_for}
use Rattle.link_io.specs.declared.target.Target.{Target}
use Rattle.flight_journal.specs.declared.entry.Entry.{Entry}
use Rattle.flight_journal.specs.declared.entry.Entry.TheVariants.{Landed, Evicted}
use Rattle.flight_journal.specs.State.{IsOpen, Flies}
use Rattle.flight_journal.specs.Journal.{after}
use Rattle.flight_rows.specs.Sight.{Sight, hand_in}
use Rattle.flight_rows.specs.Serves.{evictions}
use Rattle.flight_rows.specs.Rows.{Comes, hand_of}
use Rattle.flight_rows.proofs.TakeLemmas.{some_row, some_owed, moves}
use Rattle.flight_rows.proofs.KeptLemmas.{hand_apart, kept_facts, evicts_by, lands, over_has_oldest, listed_shorter, evictions_push, none_begun_by, hands_evict, kept_no_hand}
use Rattle.flight_rows.proofs.table.Flights.land_kept.Goals as goal

pub land_row-requires : goal.land_row-requires
land_row-requires g c = some_row c.self.inside.rows c.args.f c.args.query (ap (λ (s : Sight). hand_in s.hands c.args.f) c.self.view_is ∙ c.requires.held)

pub add-requires : goal.add-requires
add-requires g c =
    let apart = hand_apart _ _ _ _ _ _ _ _ _ _ _ _ _ _ _ c.args.f c.args.query c.self.invariant.0 (ap (λ (s : Sight). hand_in s.hands c.args.f) c.self.view_is ∙ c.requires.held) in
    let told = c.tell.ensures in
    record { unlisted = apart.0; below = apart.1; spare = room_for _ c.args.f _ told.once told.below apart.1 apart.0 }

pub overflow_sub-self : goal.overflow_sub-self
overflow_sub-self g c = (some_owed _ _ _ _ _ _ _ _ _ _ _ _ _ _ _ c.args.f c.args.query c.self.invariant.0 (ap (λ (s : Sight). hand_in s.hands c.args.f) c.self.view_is ∙ c.requires.held)).0

pub write-requires : goal.write-requires
write-requires g c =
    let o = some_owed _ _ _ _ _ _ _ _ _ _ _ _ _ _ _ c.args.f c.args.query c.self.invariant.0 (ap (λ (s : Sight). hand_in s.hands c.args.f) c.self.view_is ∙ c.requires.held) in
    omega (arith, o.0, o.1)

pub loop-self-init : goal.loop-self-init
loop-self-init g c =
    let v = c.self.view_is in
    let held = (ap (λ (s : Sight). hand_in s.hands c.args.f) c.self.view_is ∙ c.requires.held) in
    let o = some_owed _ _ _ _ _ _ _ _ _ _ _ _ _ _ _ c.args.f c.args.query c.self.invariant.0 held in
    let alive = subst (λ (s : Sight). IsOpen (after s.journal) c.args.query) (sym v) c.requires.open in
    let added = c.add.ensures in
    let st = lands _ _ _ _ _ _ _ _ c.self.inside.rows c.land_row.new.rows c.self.inside.keys _ _ _ _ _ c.self.inside.owed (c.self.inside.owed - 1) c.args.f c.args.query c.args.size c.args.value
    c.self.invariant.0 c.self.invariant.1 alive held
    (λ t flies. subst (λ (s : Sight). Comes g.V.Landed.key g.V.Landed.size g.V.Landed.number g.V.Landed.from (length s.start) s.origin c.args.f t (Some c.args.size) c.args.value.value) (sym v) (c.requires.comes t (subst (λ (s : Sight). Flies (after s.journal) c.args.f t) v flies)))
    c.land_row.ensures (ap (λ (l : Listing). l.order) added) (omega (arith, o.0)) in
    record {
      keeps = rw (c.write.ensures.entries, c.write.ensures.room, ap (λ (l : Listing). l.rows) added, ap (λ (l : Listing). l.budget) added) st.0;
      awaited = rw c.write.ensures.entries st.1;
      gone = [];
      written = sym (append-nil _);
      hands = λ n. refl;
      budget = refl;
      start = refl;
      dial = refl;
    }

pub unreachable-requires : goal.unreachable-requires
unreachable-requires g c = over_has_oldest c.loop-self.self-inside.recent.order c.loop-self.self-inside.recent.budget (sym c.in_default.ensures.oldest) (omega (arith, c.loop-self-test.true, c.total.ensures, c.budget.ensures, c.from.ensures))

pub remove-requires : goal.remove-requires
remove-requires g c = (kept_facts _ _ _ _ _ _ _ _ _ _ _ _ _ _ _ c.in-Some.g c.loop-self.invariant.keeps (sym c.in-Some.ensures.oldest)).0

pub evict_row-requires : goal.evict_row-requires
evict_row-requires g c = (kept_facts _ _ _ _ _ _ _ _ _ _ _ _ _ _ _ c.in-Some.g c.loop-self.invariant.keeps (sym c.in-Some.ensures.oldest)).1

pub loop-self-smaller : goal.loop-self-smaller
loop-self-smaller g c = listed_shorter c.in-Some.g c.loop-self.self-inside.recent.order c.remove.new.self.order (sym c.in-Some.ensures.oldest) (ap (λ (l : Listing). l.order) c.remove.ensures)

pub loop-self-preserved : goal.loop-self-preserved
loop-self-preserved g c =
    let i = c.loop-self.invariant in
    let s = c.loop-self.self-inside in
    let k = c.keys_are_told_apart.ensures in
    let e = c.evict_row.ensures in
    let out = c.remove.ensures in
    let oldest = sym c.in-Some.ensures.oldest in
    let o = kept_facts _ _ _ _ _ _ _ _ _ _ _ _ _ _ _ c.in-Some.g i.keeps oldest in
    let st = evicts_by _ _ _ _ _ _ _ k.apart k.same _ s.rows c.evict_row.new.rows s.keys c.evict_row.new.keys _ _ _ _ _ s.owed (s.owed - 1) c.in-Some.g e.1.0
    i.keeps i.awaited (omega (arith, c.loop-self-test.true, c.total.ensures, c.budget.ensures, c.from.ensures)) oldest e.0 e.1.1 e.1.2 (ap (λ (l : Listing). l.order) out) (omega (arith, o.2)) in
    let items = c.write-in-loop-self.ensures.entries in
    let listed = ap (is_listed c.in-Some.g) (sym i.keeps.holds.kept_so) ∙ o.0 in
    let none = kept_no_hand _ _ (after s.journal.entries) s.rows c.in-Some.g e.0.row i.keeps.holds.rows_fit e.0.was listed in
    record {
      keeps = rw (items, c.write-in-loop-self.ensures.room, ap (λ (l : Listing). l.rows) out, ap (λ (l : Listing). l.budget) out) st.0;
      awaited = rw items st.1;
      gone = i.gone ++ c.in-Some.g ∷ [];
      written = items ∙ ap (λ (l : List Entry). l ++ Evicted c.in-Some.g ∷ []) i.written ∙ append_assoc c.write.new.self.entries (evictions i.gone) (Evicted c.in-Some.g ∷ []) ∙ ap (λ (l : List Entry). c.write.new.self.entries ++ l) (sym (evictions_push i.gone c.in-Some.g));
      hands = λ n. hands_evict c.in-Some.g s.rows c.evict_row.new.rows e.0 none n ∙ i.hands n;
      budget = ap (λ (l : Listing). l.budget) out ∙ i.budget;
      start = i.start;
      dial = i.dial;
    }

pub returns-clause-writes : goal.returns-clause-writes
returns-clause-writes g c =
    let i = c.loop-self.invariant in
    let v = c.self.view_is in
    let added = c.add.ensures in
    let landed = Landed c.args.query c.args.f (Some c.args.size) in (
      i.gone,
      record {
        journal = i.written ∙ ap (λ (l : List Entry). l ++ evictions i.gone) (c.write.ensures.entries ∙ ap (λ (s : Sight). s.journal ++ landed ∷ []) v) ∙ append_assoc c.args.self.now.journal (landed ∷ []) (evictions i.gone);
        dialed = ap g.D.Dial.dialed i.dial ∙ ap (λ (s : Sight). s.dialed) v ∙ sym (append-nil _) ∙ ap (λ (l : List Target). c.args.self.now.dialed ++ l) (sym (none_begun_by i.gone));
        keep = i.budget ∙ ap (λ (l : Listing). l.budget) added ∙ ap (λ (s : Sight). s.keep) v;
        start = ap (λ s. g.D.Dial.dialed s.value) i.start ∙ ap (λ (s : Sight). s.start) v;
        origin = ap g.D.Dial.origin i.dial ∙ ap (λ (s : Sight). s.origin) v;
      },
    )

pub returns-clause-hand : goal.returns-clause-hand
returns-clause-hand g c =
    let change = c.land_row.ensures in
    let i = c.loop-self.invariant in
    let put = moves c.args.f _ c.self.inside.rows c.land_row.new.rows None change (ap hand_of change.so.2) in
    record { here = i.hands c.args.f ∙ put.0; others = λ n ne. i.hands n ∙ put.1 n ne ∙ ap (λ (s : Sight). hand_in s.hands n) c.self.view_is }
