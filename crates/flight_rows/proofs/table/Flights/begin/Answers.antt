use Rattle.std.proofs.Common.{◌++◌, ◌∷◌, [], List, length, arith, refl, sym, ap, ◌∙◌, subst}
use Rattle.std.proofs.lemmas.Result.{err_from_is_err_and}
use Rattle.std.specs.Ordering.{nat_cmp}
use Rattle.std.specs.BTreeMap.{is_at}
use Rattle.std.specs.Map.{remove_entry}
use Rattle.shard_cache.specs.Recency.{Listing}
use Rattle.link_io.specs.declared.target.Target.{Target}
use Rattle.flight_journal.specs.declared.entry.Entry.{Entry}
use Rattle.flight_journal.specs.declared.entry.Entry.TheVariants.{Began}
use Rattle.flight_journal.specs.Journal.{after, IsFreeKey}
use Rattle.flight_journal.specs.State.{IsOpen}
use Rattle.flight_rows.specs.Sight.{Sight, hand_in}
use Rattle.flight_rows.specs.Rows.{hands_of}
use Rattle.flight_rows.proofs.StateLemmas.{room_for_all}
use Rattle.flight_rows.proofs.EntryLemmas.{begins_flight, roomier, keys_again, none_begun, dialed_count}
use Rattle.flight_rows.proofs.WriteLemmas.{removed_again, hands_begin}
use Rattle.flight_rows.proofs.table.Flights.begin.Goals as goal

pub add_both-requires : goal.add_both-requires
add_both-requires g c = record { row = none_begun _ _ _ _ _ _ _ _ _ _ _ _ _ _ _ c.self.invariant.0 }

pub invariant_of-self-in_err-reserve_row : goal.invariant_of-self-in_err-reserve_row
invariant_of-self-in_err-reserve_row g c =
    rw (c.reserve.ensures.entries, c.in_err-reserve_row.ensures.err)
    (roomier _ _ _ _ _ _ _ _ _ _ _ _ _ _ _ _ _ _ _ c.self.invariant.0 refl refl c.reserve.ensures.kept (omega arith), c.self.invariant.1)

pub returns-in_err-reserve_row-clause-err : goal.returns-in_err-reserve_row-clause-err
returns-in_err-reserve_row-clause-err g c =
    let p = err_from_is_err_and c.from_residual-in_err-reserve_row.result c.from_residual-in_err-reserve_row.ensures.1 in
    let same = c.in_err-reserve_row.ensures.err in
    let v = c.self.view_is in
    rw p.1 (λ i. record {
      journal = (c.reserve.ensures.entries ∙ ap (λ (s : Sight). s.journal) v) i;
      keep = (ap (λ (l : Listing). l.budget) same ∙ ap (λ (s : Sight). s.keep) v) i;
      start = ap (λ (s : Sight). s.start) v i;
      dialed = ap (λ (s : Sight). s.dialed) v i;
      origin = ap (λ (s : Sight). s.origin) v i;
      hands = ap (λ (s : Sight). s.hands) v i;
    })

pub invariant_of-self-in_err-add_both : goal.invariant_of-self-in_err-add_both
invariant_of-self-in_err-add_both g c =
    let a = c.in_err-add_both.ensures in
    let more = c.in_ok-reserve_row.ensures.ok in
    let rows = ap (λ (l : Listing). l.rows) more in
    rw (c.reserve.ensures.entries, ap (λ (l : Listing). l.order) more, ap (λ (l : Listing). l.budget) more)
    (roomier _ _ _ _ _ _ _ _ _ _ _ _ _ _ _ _ _ _ _ c.self.invariant.0 a.rows_stay a.keys_stay c.reserve.ensures.kept (omega (arith, rows)), c.self.invariant.1)

pub invariant_of-self-in-Err : goal.invariant_of-self-in-Err
invariant_of-self-in-Err g c =
    let a = c.in_ok-add_both.ensures in
    let d = c.drop_both.ensures in
    let more = c.in_ok-reserve_row.ensures.ok in
    let rows = ap (λ (l : Listing). l.rows) more in
    let j = sym (ap (λ (s : Sight). s.journal) c.self.view_is) in
    let free = subst (λ (l : List Entry). IsFreeKey (after l) c.args.target.now.key) j c.requires.free in
    let rows_stay = d.rows ∙ ap (λ l. remove_entry (is_at (nat_cmp c.self.inside.begun)) l) a.rows ∙ removed_again c.self.inside.rows.entries c.self.inside.begun c.in_ok-made.made.row (none_begun _ _ _ _ _ _ _ _ _ _ _ _ _ _ _ c.self.invariant.0) in
    let keys_stay = keys_again _ _ _ _ _ _ _ _ _ c.self.inside.keys c.add_both.new.keys c.drop_both.new.keys _ _ _ _ _ c.args.target.now c.in_ok-made.made.key c.self.invariant.0 free c.keys_are_told_apart.ensures.same c.in_ok-made.ensures.key a.keys d.keys in
    rw (c.in-Err.ensures.err, c.dial.ensures.origin, c.reserve.ensures.entries, ap (λ (l : Listing). l.order) more, ap (λ (l : Listing). l.budget) more)
    (roomier _ _ _ _ _ _ _ _ _ _ _ _ _ _ _ _ _ _ _ c.self.invariant.0 rows_stay keys_stay c.reserve.ensures.kept (omega (arith, rows)), c.self.invariant.1)

pub returns-in-Err-clause-err : goal.returns-in-Err-clause-err
returns-in-Err-clause-err g c =
    let a = c.in_ok-add_both.ensures in
    let d = c.drop_both.ensures in
    let v = c.self.view_is in
    let more = c.in_ok-reserve_row.ensures.ok in
    let rows_stay = d.rows ∙ ap (λ l. remove_entry (is_at (nat_cmp c.self.inside.begun)) l) a.rows ∙ removed_again c.self.inside.rows.entries c.self.inside.begun c.in_ok-made.made.row (none_begun _ _ _ _ _ _ _ _ _ _ _ _ _ _ _ c.self.invariant.0) in
    λ i. record {
      journal = (c.reserve.ensures.entries ∙ ap (λ (s : Sight). s.journal) v) i;
      keep = (ap (λ (l : Listing). l.budget) more ∙ ap (λ (s : Sight). s.keep) v) i;
      start = ap (λ (s : Sight). s.start) v i;
      dialed = (c.in-Err.ensures.err ∙ ap (λ (s : Sight). s.dialed) v) i;
      origin = (c.dial.ensures.origin ∙ ap (λ (s : Sight). s.origin) v) i;
      hands = (ap hands_of rows_stay ∙ ap (λ (s : Sight). s.hands) v) i;
    }

pub invariant_of-self-2 : goal.invariant_of-self-2
invariant_of-self-2 g c =
    let a = c.in_ok-add_both.ensures in
    let l = c.in-Ok.ensures in
    let j = sym (ap (λ (s : Sight). s.journal) c.self.view_is) in
    let alive = subst (λ (e : List Entry). IsOpen (after e) c.args.query) j c.requires.open in
    let free = subst (λ (e : List Entry). IsFreeKey (after e) c.args.target.now.key) j c.requires.free in
    let made = c.in_ok-made.ensures in
    let more = c.in_ok-reserve_row.ensures.ok in
    let space = c.in_ok-reserve.ensures in
    let count = dialed_count _ _ _ _ _ _ _ _ _ _ _ _ _ _ _ c.self.invariant.0 in
    rw (c.write.ensures.entries, c.write.ensures.room, c.reserve.ensures.entries, made.noted, l.dialed, c.dial.ensures.origin, ap (λ (l : Listing). l.order) more, ap (λ (l : Listing). l.budget) more)
    (begins_flight _ _ _ _ _ _ _ c.keys_are_told_apart.ensures.apart _ _ _ _ _ _ _ _ _ _ _ _ _ _ _ _ _ c.self.invariant.0 c.self.invariant.1 alive free c.requires.plain a.rows_at (let u = a.keys_at in rw made.key at u) c.put_at.ensures made.row.target_is made.row.queries made.row.unkept
    (record { aimed = rw c.new-parcel.ensures made.carried; numbered = rw c.new-parcel.ensures (l.fresh.number ∙ count); is_from = rw c.new-parcel.ensures l.from; whole = rw c.new-parcel.ensures refl; undecided = rw c.new-parcel.ensures c.nothing_is_decided_before_the_first_byte.ensures })
    (ap (λ (l : Listing). l.rows) more)
    (room_for_all _ _ c.self.inside.owed 3 _ _ (ap length c.reserve.ensures.entries) c.saturating_add.ensures space.ok space.bound))

pub returns-clause-ok : goal.returns-clause-ok
returns-clause-ok g c =
    let a = c.in_ok-add_both.ensures in
    let v = c.self.view_is in
    let more = c.in_ok-reserve_row.ensures.ok in
    let h = c.self.invariant.0.holds in (
      record {
        journal = c.write.ensures.entries ∙ ap (λ (l : List Entry). l ++ Began c.args.query c.self.inside.begun c.in_ok-made.made.noted ∷ []) (c.reserve.ensures.entries ∙ ap (λ (s : Sight). s.journal) v) ∙ ap (λ (t : Target). c.args.self.now.journal ++ Began c.args.query c.self.inside.begun t ∷ []) c.in_ok-made.ensures.noted;
        dialed = c.in-Ok.ensures.dialed ∙ ap (λ (l : List Target). l ++ c.args.target.now ∷ []) (ap (λ (s : Sight). s.dialed) v);
        keep = ap (λ (l : Listing). l.budget) more ∙ ap (λ (s : Sight). s.keep) v;
        start = ap (λ (s : Sight). s.start) v;
        origin = c.dial.ensures.origin ∙ ap (λ (s : Sight). s.origin) v;
      },
      λ n. hands_begin c.self.inside.rows c.add_both.new.rows c.put_at.new.rows c.self.inside.begun c.in_ok-made.made.row c.new-parcel.result (none_begun _ _ _ _ _ _ _ _ _ _ _ _ _ _ _ c.self.invariant.0) a.rows_at c.put_at.ensures n ∙ ap (λ (s : Sight). hand_in s.hands n) v,
      h.begun_so ∙ ap (λ (s : Sight). length (after s.journal).flights) v,
    )
