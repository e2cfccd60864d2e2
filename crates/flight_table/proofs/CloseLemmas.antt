-- What the pass of a query says that has just left.
use Rattle.std.proofs.Common.{◌≡◌, ◌⊎◌, ℕ, ◌+◌, Bool, true, false, List, [], ◌∷◌, ◌++◌, Option, refl, sym, ap, ◌∙◌, subst, ⊎_elim, arith, append-nil, add-zero, eq-eqb}
use Rattle.std.specs.Option.{unwrap_or}
use Rattle.link_io.specs.declared.target.Key.{Key}
use Rattle.flight_journal.specs.declared.entry.Entry.{Entry}
use Rattle.flight_journal.specs.declared.entry.Entry.TheVariants.{Cancelled, Closed}
use Rattle.flight_journal.specs.State.{State, nothing, left_by, WaitsIn, IsOwed, IsOpen, is_open}
use Rattle.flight_journal.specs.Journal.{after, step, Allowed, Legal}
use Rattle.flight_journal.specs.Count.{names, one_if, losses_of, asked_in, asks_from, wrecked_in, wrecks_from, is_this, loser_in}
use Rattle.flight_journal.proofs.PushLemmas.{after_push}
use Rattle.flight_journal.proofs.ListLemmas.{none_in_nothing, get_set}
use Rattle.flight_journal.proofs.CountLemmas.{calls_push, losses_push, asks_push, wrecks_push}
use Rattle.flight_journal.proofs.LegalLemmas.{leaves_all}
use Rattle.flight_rows.specs.Serves.{IsLeaving}
use Rattle.flight_table.specs.Facts.{Facts, left_pass}
use Rattle.flight_table.specs.Knows.{Knows}
use Rattle.flight_table.proofs.KnowLemmas.{lost_more}

knows_left : (budget : ℕ) (js : List Entry) (e : Entry) (p : Facts) → Allowed budget (after js) e → IsOpen (after js) p.query
    → step (after js) e ≡ left_by p.query (after js) → names p.query e ≡ true → asked_in p.query (after js) e ≡ [] → wrecked_in p.query (after js) e ≡ [] → is_this p.query (loser_in e) ≡ false
    → Knows js p → Knows (js ++ e ∷ []) (left_pass p)
knows_left budget js e p may alive left named no_key no_wreck no_loss k =
    let calls = calls_push p.query js e in
    let one : one_if (names p.query e) ≡ 1 = ap one_if named in
    let known = k.calls in
    record {
      entered = omega arith;
      calls = omega arith;
      live = sym (ap (λ (s : State). is_open s p.query) (after_push js e ∙ left) ∙ ap (λ (o : Option Bool). unwrap_or o false) (get_set p.query false (after js).live true alive));
      asks = k.asks ∙ sym (asks_push p.query nothing js e ∙ ap (λ (l : List Key). asks_from p.query nothing js ++ l) no_key ∙ append-nil _);
      losses = k.losses ∙ sym (losses_push p.query js e ∙ ap (λ b. losses_of p.query js + one_if b) no_loss ∙ add-zero (losses_of p.query js));
      wrecks = k.wrecks ∙ sym (wrecks_push p.query nothing js e ∙ ap (λ (l : List ℕ). wrecks_from p.query nothing js ++ l) no_wreck ∙ append-nil _);
      lost = λ f among. lost_more budget js e p.query f may (k.lost f among);
      lost_once = k.lost_once;
      lost_apart = λ f t among. absurd (none_in_nothing among.0 (f, t) among.1);
      awaits_once = λ i j f h n. absurd (none_in_nothing i f h);
      awaits = λ f t among. absurd (none_in_nothing among.0 (f, t) among.1);
      all_awaits = λ f either. absurd (nothing_awaited f (subst (λ (s : State). WaitsIn s p.query f ⊎ IsOwed s p.query f) (after_push js e ∙ left) either));
    }
  where
    nothing_awaited : (f : ℕ) → WaitsIn (left_by p.query (after js)) p.query f ⊎ IsOwed (left_by p.query (after js)) p.query f → ⊥
    nothing_awaited f either =
        ⊎_elim
        (λ (w : WaitsIn (left_by p.query (after js)) p.query f). leaves_all (after js) p.query f w.0 w.1 w.3)
        (λ (o : IsOwed (left_by p.query (after js)) p.query f). leaves_all (after js) p.query f o.0 o.1 o.3)
        either

pub knows_leaving : (budget : ℕ) (journal : List Entry) (e : Entry) (p : Facts) → Legal budget journal → Allowed budget (after journal) e → IsLeaving p.query e → Knows journal p → Knows (journal ++ e ∷ []) (left_pass p)
knows_leaving budget journal e p legal may leaving k =
    ⊎_elim
    (λ (i : e ≡ Cancelled p.query).
    let m : Allowed budget (after journal) (Cancelled p.query) = subst (λ (x : Entry). Allowed budget (after journal) x) i may in
    subst (λ (x : Entry). Knows (journal ++ x ∷ []) (left_pass p)) (sym i) (knows_left budget journal (Cancelled p.query) p m m.1 refl (eq-eqb p.query p.query refl) refl refl refl k))
    (λ (i : e ≡ Closed p.query).
    let m : Allowed budget (after journal) (Closed p.query) = subst (λ (x : Entry). Allowed budget (after journal) x) i may in
    subst (λ (x : Entry). Knows (journal ++ x ∷ []) (left_pass p)) (sym i) (knows_left budget journal (Closed p.query) p m m.1 refl (eq-eqb p.query p.query refl) refl refl refl k))
    leaving
