use Rattle.std.proofs.Common.{[], ◌∷◌, List, ◌++◌, length, sym, ap, ◌∙◌, subst, append-nil}
use Rattle.shard_cache.specs.Recency.{Listing, is_listed}
use Rattle.flight_journal.specs.declared.entry.Entry.{Entry}
use Rattle.flight_journal.specs.declared.entry.Entry.TheVariants.{Hit}
use Rattle.flight_journal.specs.State.{IsOpen, IsKept}
use Rattle.flight_journal.specs.Journal.{after}
use Rattle.flight_rows.specs.Sight.{Sight, hand_in}
use Rattle.flight_rows.specs.Serves.{HasKept}
use Rattle.flight_rows.specs.Rows.{Comes}
use Rattle.flight_rows.proofs.StateLemmas.{room_for_all}
use Rattle.flight_rows.proofs.LeaveLemmas.{one_value}
use Rattle.flight_rows.proofs.HitLemmas.{hits, kept_comes}
use Rattle.flight_rows.proofs.table.Flights.hit.Goals as goal

pub copy_value-requires : goal.copy_value-requires
copy_value-requires g c =
    let kept = subst (λ (s : Sight). IsKept (after s.journal) c.args.f c.requires.kept.0) (sym c.self.view_is) c.requires.kept.1 in
    let r = kept_comes _ _ _ _ _ _ _ _ _ _ _ _ _ _ _ c.args.f c.requires.kept.0 c.self.invariant.0 kept in
    (r.0, r.1, (r.2.0, r.2.1))

pub touch-requires : goal.touch-requires
touch-requires g c =
    let kept = subst (λ (s : Sight). IsKept (after s.journal) c.args.f c.requires.kept.0) (sym c.self.view_is) c.requires.kept.1 in
    ap (is_listed c.args.f) c.self.invariant.0.holds.kept_so ∙ kept.2

pub invariant_of-self-2 : goal.invariant_of-self-2
invariant_of-self-2 g c =
    let space = c.in_ok-reserve.ensures in
    let v = c.self.view_is in
    let kept = subst (λ (s : Sight). IsKept (after s.journal) c.args.f c.requires.kept.0) (sym v) c.requires.kept.1 in
    let alive = subst (λ (s : Sight). IsOpen (after s.journal) c.args.query) (sym v) c.requires.open in
    let moved = c.touch.ensures in
    rw (c.write.ensures.entries, c.write.ensures.room, c.reserve.ensures.entries, ap (λ (l : Listing). l.rows) moved, ap (λ (l : Listing). l.budget) moved)
    (hits _ _ _ _ _ _ _ _ _ c.self.inside.rows c.self.inside.keys _ _ _ _ _ _ c.args.f c.args.query c.requires.kept.0 c.self.invariant.0 c.self.invariant.1 alive kept (ap (λ (l : Listing). l.order) moved)
    (room_for_all _ _ c.self.inside.owed 1 _ _ (ap length c.reserve.ensures.entries) c.saturating_add.ensures space.ok space.bound))

pub returns-clause-ok : goal.returns-clause-ok
returns-clause-ok g c =
    let v = c.self.view_is in
    let kept = subst (λ (s : Sight). IsKept (after s.journal) c.args.f c.requires.kept.0) (sym v) c.requires.kept.1 in
    let r = kept_comes _ _ _ _ _ _ _ _ _ _ _ _ _ _ _ c.args.f c.requires.kept.0 c.self.invariant.0 kept in
    let moved = c.touch.ensures in
    let value = one_value c.args.f c.self.inside.rows r.0 r.2.0 c.in_ok-value.value.value r.1 r.2.1 c.in_ok-value.ensures in (
      record {
        journal = c.write.ensures.entries ∙ ap (λ (l : List Entry). l ++ Hit c.args.query c.args.f ∷ []) (c.reserve.ensures.entries ∙ ap (λ (s : Sight). s.journal) v);
        dialed = ap (λ (s : Sight). s.dialed) v ∙ sym (append-nil _);
        keep = ap (λ (l : Listing). l.budget) moved ∙ ap (λ (s : Sight). s.keep) v;
        start = ap (λ (s : Sight). s.start) v;
        origin = ap (λ (s : Sight). s.origin) v;
      },
      (λ n. ap (λ (s : Sight). hand_in s.hands n) v),
      subst (λ (s : Sight). HasKept (Comes g.V.Landed.key g.V.Landed.size g.V.Landed.number g.V.Landed.from (length s.start) s.origin c.args.f) c.args.f s c.in_ok-value.value.value) v (kept.0, kept.1, r.2.2.0, r.2.2.1, rw value at r.2.2.2),
    )
