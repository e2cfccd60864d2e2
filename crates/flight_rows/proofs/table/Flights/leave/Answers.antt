use Rattle.std.proofs.Common.{◌≡◌, ◌≢◌, ◌⊎◌, ℕ, [], ◌∷◌, List, ◌++◌, ◌-◌, Some, true, true≢false, slice_index, refl, sym, ap, ◌∙◌, subst, append-nil, append_assoc, arith}
use Rattle.std.specs.Ordering.{nat_cmp}
use Rattle.std.specs.BTreeMap.{get}
use Rattle.shard_cache.specs.Recency.{Listing}
use Rattle.link_io.specs.declared.target.Target.{Target}
use Rattle.flight_journal.specs.declared.entry.Entry.{Entry}
use Rattle.flight_journal.specs.declared.entry.Entry.TheVariants.{Abandoned}
use Rattle.flight_journal.specs.State.{State, IsOpen, WaitsIn, IsOwed, is_one_of}
use Rattle.flight_journal.specs.Journal.{after, IsAlone}
use Rattle.flight_journal.proofs.PushLemmas.{after_push}
use Rattle.flight_rows.specs.Sight.{Sight, hand_in}
use Rattle.flight_rows.specs.Serves.{abandonments}
use Rattle.flight_rows.specs.Rows.{hands_of}
use Rattle.flight_rows.proofs.LeaveLemmas.{leaves, abandons}
use Rattle.flight_rows.proofs.AloneLemmas.{alone_row, row_alone, alone_before, least_alone, alone_further, none_alone, leaving_step, leaving_may, abandonments_push, leaving_begun, parts_all, no_row_away}
use Rattle.flight_rows.proofs.GoneLemmas.{open_owed, lone_owed, first_alone, hands_left, hands_gone}
use Rattle.flight_rows.proofs.table.Flights.leave.Goals as goal

pub overflow_sub-self : goal.overflow_sub-self
overflow_sub-self g c =
    (open_owed _ _ _ _ _ _ _ _ _ _ _ _ _ _ _ c.args.query c.self.invariant.0 (subst (λ (s : Sight). IsOpen (after s.journal) c.args.query) (sym c.self.view_is) c.requires.open)).0

pub write-requires : goal.write-requires
write-requires g c =
    let o = open_owed _ _ _ _ _ _ _ _ _ _ _ _ _ _ _ c.args.query c.self.invariant.0 (subst (λ (s : Sight). IsOpen (after s.journal) c.args.query) (sym c.self.view_is) c.requires.open) in
    omega (arith, o.0, o.1)

pub loop-i-init : goal.loop-i-init
loop-i-init g c =
    let v = c.self.view_is in
    let alive = subst (λ (s : Sight). IsOpen (after s.journal) c.args.query) (sym v) c.requires.open in
    let o = open_owed _ _ _ _ _ _ _ _ _ _ _ _ _ _ _ c.args.query c.self.invariant.0 alive in
    let idle : (f : ℕ) → hand_in (hands_of c.self.inside.rows.entries) f ≢ Some c.args.query = λ f held. c.requires.idle f (sym (ap (λ (s : Sight). hand_in s.hands f) v) ∙ held) in
    let awaited = subst (λ (s : Sight). (f : ℕ) → WaitsIn (after s.journal) c.args.query f ⊎ IsOwed (after s.journal) c.args.query f → is_one_of f c.args.flights.now ≡ true) (sym v) c.requires.awaited in
    let entry = leaving_step c.args.query (after c.self.inside.journal.entries) c.args.entry c.requires.leaving in
    let may = leaving_may _ c.args.query (after c.self.inside.journal.entries) c.args.entry c.requires.leaving c.self.invariant.1 alive in
    let parts = parts_all _ _ c.args.query (after c.self.inside.journal.entries) c.args.flights.now c.self.inside.rows c.part_each.new.rows c.self.invariant.0.holds.rows_fit awaited c.part_each.ensures.parted c.part_each.ensures.others in
    let st = leaves _ _ _ _ _ _ _ c.args.entry _ c.self.inside.rows c.part_each.new.rows c.self.inside.keys _ _ _ _ c.self.inside.owed (c.self.inside.owed - 1) c.args.query entry.0 entry.1 may c.self.invariant.0 c.self.invariant.1 alive (no_row_away c.args.query c.self.inside.rows idle) parts (omega (arith, o.0)) in
    record {
      keeps = rw (c.write.ensures.entries, c.write.ensures.room) st.0;
      within = rw c.write.ensures.entries st.1;
      alone = rw c.write.ensures.entries (first_alone c.args.query c.args.entry c.self.inside.journal.entries c.args.flights.now entry.0 c.self.invariant.1.awaited awaited);
      gone = [];
      written = sym (append-nil _);
      hands = λ n. refl;
      recent = refl;
      start = refl;
      dial = refl;
    }

pub loop-i-preserved-then-not-is_alone : goal.loop-i-preserved-then-not-is_alone
loop-i-preserved-then-not-is_alone g c =
    let i = c.loop-i.invariant in
    let s = c.loop-i.self-inside in
    let now = after s.journal.entries in
    record {
      keeps = i.keeps;
      within = i.within;
      alone = alone_further now now c.args.flights.now c.loop-i.i i.alone (λ n alone. (
        (λ e. let r = alone_row _ _ now s.rows n i.keeps.holds.rows_fit alone in true≢false (sym (c.is_alone.ensures.no r.0 (ap (get nat_cmp s.rows) (sym e) ∙ r.1) r.2) ∙ c.if-not-is_alone.true)),
        alone,
      ));
      gone = i.gone;
      written = i.written;
      hands = i.hands;
      recent = i.recent;
      start = i.start;
      dial = i.dial;
    }

pub overflow_sub-self-in-loop-i : goal.overflow_sub-self-in-loop-i
overflow_sub-self-in-loop-i g c =
    let i = c.loop-i.invariant in
    let s = c.loop-i.self-inside in
    let yes = c.is_alone.ensures.yes c.if-not-is_alone.false in
    let alone = row_alone _ _ (after s.journal.entries) s.rows (slice_index c.args.flights.now c.loop-i.i) yes.0 i.keeps.holds.rows_fit yes.1 yes.2 in
    (lone_owed _ _ _ _ _ _ _ _ _ _ _ _ _ _ _ (slice_index c.args.flights.now c.loop-i.i) i.keeps alone).0

pub write-requires-in-loop-i : goal.write-requires-in-loop-i
write-requires-in-loop-i g c =
    let i = c.loop-i.invariant in
    let s = c.loop-i.self-inside in
    let yes = c.is_alone.ensures.yes c.if-not-is_alone.false in
    let alone = row_alone _ _ (after s.journal.entries) s.rows (slice_index c.args.flights.now c.loop-i.i) yes.0 i.keeps.holds.rows_fit yes.1 yes.2 in
    let o = lone_owed _ _ _ _ _ _ _ _ _ _ _ _ _ _ _ (slice_index c.args.flights.now c.loop-i.i) i.keeps alone in
    omega (arith, o.0, o.1)

pub loop-i-preserved : goal.loop-i-preserved
loop-i-preserved g c =
    let i = c.loop-i.invariant in
    let s = c.loop-i.self-inside in
    let now = after s.journal.entries in
    let f = slice_index c.args.flights.now c.loop-i.i in
    let yes = c.is_alone.ensures.yes c.if-not-is_alone.false in
    let alone = row_alone _ _ now s.rows f yes.0 i.keeps.holds.rows_fit yes.1 yes.2 in
    let o = lone_owed _ _ _ _ _ _ _ _ _ _ _ _ _ _ _ f i.keeps alone in
    let least = least_alone now c.args.flights.now c.loop-i.i c.requires.rising (omega arith) i.alone alone in
    let k = c.keys_are_told_apart.ensures in
    let e = c.end_row.ensures in
    let st = abandons _ _ _ _ _ _ _ k.apart k.same _ s.rows c.end_row.new.rows s.keys c.end_row.new.keys _ _ _ _ s.owed (s.owed - 1) f e.0 i.keeps i.within least e.1 e.2 e.3 (omega (arith, o.0)) in
    let items = c.write-in-loop-i.ensures.entries in
    record {
      keeps = rw (items, c.write-in-loop-i.ensures.room) st.0;
      within = rw items st.1;
      alone = rw items (alone_further now (after (s.journal.entries ++ Abandoned f ∷ [])) c.args.flights.now c.loop-i.i i.alone (λ n a. alone_before f n now (subst (λ (z : State). IsAlone z n) (after_push s.journal.entries (Abandoned f)) a)));
      gone = i.gone ++ f ∷ [];
      written = items ∙ ap (λ (l : List Entry). l ++ Abandoned f ∷ []) i.written ∙ append_assoc c.write.new.self.entries (abandonments i.gone) (Abandoned f ∷ []) ∙ ap (λ (l : List Entry). c.write.new.self.entries ++ l) (sym (abandonments_push i.gone f));
      hands = λ n. hands_gone f s.rows c.end_row.new.rows yes.0 yes.1 yes.2 e.2 n ∙ i.hands n;
      recent = i.recent;
      start = i.start;
      dial = i.dial;
    }

pub invariant_of-self : goal.invariant_of-self
invariant_of-self g c =
    let i = c.loop-i.invariant in
    (i.keeps, record { within = i.within; awaited = none_alone (after c.loop-i.self-inside.journal.entries) c.args.flights.now c.loop-i.i (omega arith) i.alone })

pub returns-clause-writes : goal.returns-clause-writes
returns-clause-writes g c =
    let i = c.loop-i.invariant in
    let v = c.self.view_is in (
      i.gone,
      record {
        journal = i.written ∙ ap (λ (l : List Entry). l ++ abandonments i.gone) (c.write.ensures.entries ∙ ap (λ (s : Sight). s.journal ++ c.args.entry ∷ []) v) ∙ append_assoc c.args.self.now.journal (c.args.entry ∷ []) (abandonments i.gone);
        dialed = ap g.D.Dial.dialed i.dial ∙ ap (λ (s : Sight). s.dialed) v ∙ sym (append-nil _) ∙ ap (λ (l : List Target). c.args.self.now.dialed ++ l) (sym (leaving_begun c.args.query c.args.entry i.gone c.requires.leaving));
        keep = ap (λ (l : Listing). l.budget) i.recent ∙ ap (λ (s : Sight). s.keep) v;
        start = ap (λ s. g.D.Dial.dialed s.value) i.start ∙ ap (λ (s : Sight). s.start) v;
        origin = ap g.D.Dial.origin i.dial ∙ ap (λ (s : Sight). s.origin) v;
      },
    )

pub returns-clause-hands : goal.returns-clause-hands
returns-clause-hands g c =
    let v = c.self.view_is in
    let awaited = subst (λ (s : Sight). (f : ℕ) → WaitsIn (after s.journal) c.args.query f ⊎ IsOwed (after s.journal) c.args.query f → is_one_of f c.args.flights.now ≡ true) (sym v) c.requires.awaited in
    let parts = parts_all _ _ c.args.query (after c.self.inside.journal.entries) c.args.flights.now c.self.inside.rows c.part_each.new.rows c.self.invariant.0.holds.rows_fit awaited c.part_each.ensures.parted c.part_each.ensures.others in
    λ n. c.loop-i.invariant.hands n ∙ hands_left c.args.query c.self.inside.rows c.part_each.new.rows parts n ∙ ap (λ (s : Sight). hand_in s.hands n) v
