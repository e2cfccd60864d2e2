use Rattle.std.proofs.Common.{◌++◌, ◌∷◌, [], List, length, sym, ap, ◌∙◌, subst}
use Rattle.std.proofs.lemmas.Result.{err_from_is_err_and}
use Rattle.flight_journal.specs.declared.entry.Entry.{Entry}
use Rattle.flight_journal.specs.declared.entry.Entry.TheVariants.{Joined}
use Rattle.flight_journal.specs.Journal.{after}
use Rattle.flight_journal.specs.State.{WaitsIn, Flies, IsOpen}
use Rattle.flight_rows.specs.Sight.{Sight}
use Rattle.flight_rows.proofs.StateLemmas.{room_for_all}
use Rattle.flight_rows.proofs.EntryLemmas.{joins}
use Rattle.flight_rows.proofs.WriteLemmas.{hands_stay}
use Rattle.flight_rows.proofs.table.Flights.join.Goals as goal

pub returns-in_err-push_query-clause-err : goal.returns-in_err-push_query-clause-err
returns-in_err-push_query-clause-err g c =
    let p = err_from_is_err_and c.from_residual-in_err-push_query.result c.from_residual-in_err-push_query.ensures.1 in
    let change = c.in_err-push_query.ensures.err in
    let hands = hands_stay _ _ _ _ change change.so.2 in
    let v = c.self.view_is in
    rw p.1 (λ i. record {
      journal = (c.reserve.ensures.entries ∙ ap (λ (s : Sight). s.journal) v) i;
      keep = ap (λ (s : Sight). s.keep) v i;
      start = ap (λ (s : Sight). s.start) v i;
      dialed = ap (λ (s : Sight). s.dialed) v i;
      origin = ap (λ (s : Sight). s.origin) v i;
      hands = (hands ∙ ap (λ (s : Sight). s.hands) v) i;
    })

pub invariant_of-self-2 : goal.invariant_of-self-2
invariant_of-self-2 g c =
    let space = c.in_ok-reserve.ensures in
    let j = sym (ap (λ (s : Sight). s.journal) c.self.view_is) in
    let r = c.requires in
    rw (c.write.ensures.entries, c.write.ensures.room, c.reserve.ensures.entries)
    (joins _ _ _ _ _ _ _ _ _ _ _ _ _ _ _ _ _ _ _ c.self.invariant.0 c.self.invariant.1
    (subst (λ (l : List Entry). IsOpen (after l) c.args.query) j r.open)
    r.flies.0
    (subst (λ (l : List Entry). Flies (after l) c.args.f r.flies.0) j r.flies.1)
    (subst (λ (l : List Entry). WaitsIn (after l) c.args.query c.args.f → ⊥) j r.apart)
    c.in_ok-push_query.ensures.ok
    (room_for_all _ _ c.self.inside.owed 2 _ _ (ap length c.reserve.ensures.entries) c.saturating_add.ensures space.ok space.bound))

pub returns-clause-ok : goal.returns-clause-ok
returns-clause-ok g c =
    let change = c.in_ok-push_query.ensures.ok in
    let hands = hands_stay _ _ _ _ change change.so.2 in
    let v = c.self.view_is in
    λ i. record {
      journal = (c.write.ensures.entries ∙ ap (λ (l : List Entry). l ++ Joined c.args.query c.args.f ∷ []) (c.reserve.ensures.entries ∙ ap (λ (s : Sight). s.journal) v)) i;
      keep = ap (λ (s : Sight). s.keep) v i;
      start = ap (λ (s : Sight). s.start) v i;
      dialed = ap (λ (s : Sight). s.dialed) v i;
      origin = ap (λ (s : Sight). s.origin) v i;
      hands = (hands ∙ ap (λ (s : Sight). s.hands) v) i;
    }
