-- An entry that names another query, or none, leaves all that a pass says as it was.
use Rattle.std.proofs.Common.{◌≡◌, ◌≢◌, ◌⊎◌, ℕ, ◌<◌, ◌==◌, ◌||◌, Bool, true, false, true≢false, List, [], ◌∷◌, ◌++◌, length, Some, refl, sym, ap, ◌∙◌, subst, inl, inr, ⊎_elim, arith, eq-eqb}
use Rattle.std.proofs.lemmas.Option.{slice_get_within}
use Rattle.link_io.specs.declared.target.Target.{Target}
use Rattle.flight_journal.specs.declared.entry.Entry.{Entry}
use Rattle.flight_journal.specs.declared.entry.Entry.TheVariants.{Began, Joined, Lost}
use Rattle.flight_journal.specs.State.{Phase, flying, landed, gone, Flight, State, nothing, IsFlight, is_one_of, is_landed, WaitsIn, IsOwed, is_open}
use Rattle.flight_journal.specs.Journal.{after, step, Allowed, Legal}
use Rattle.flight_journal.specs.Count.{Among, names}
use Rattle.flight_journal.specs.Others.{FliesOn, IsLostBy}
use Rattle.flight_journal.proofs.PushLemmas.{after_push}
use Rattle.flight_journal.proofs.ListLemmas.{get_last, get_before_last}
use Rattle.flight_journal.proofs.CarryLemmas.{one_flight, carried, gone_stays, lost_goes, open_stays}
use Rattle.flight_journal.proofs.CountLemmas.{calls_stay, losses_stay, asks_stay, wrecks_stay}
use Rattle.flight_journal.proofs.LegalLemmas.{came_from, Older, Newer}
use Rattle.flight_table.specs.Facts.{Facts}
use Rattle.flight_table.specs.Knows.{EnteredFlight, WasLost, IsAwait, Knows}

-- ---- what was written stays
among_more : (x e : Entry) (js : List Entry) → Among x js → Among x (js ++ e ∷ [])
among_more x e js among = (among.0, get_before_last js e among.0 (below among.0 (length js) (slice_get_within js among.0 x among.1)) ∙ among.1)
  where
    below : (m n : ℕ) → m < n → m ≢ n
    below m n less same = let bad : ⊥ = omega arith in bad

entered_more : (js : List Entry) (e : Entry) (q f : ℕ) → EnteredFlight js q f → EnteredFlight (js ++ e ∷ []) q f
entered_more js e q f entered =
    ⊎_elim
    (λ (w : (t : Target) × Among (Began q f t) js). inl (w.0, among_more (Began q f w.0) e js w.1))
    (λ (w : Among (Joined q f) js). inr (among_more (Joined q f) e js w))
    entered

-- a flight of the state behind one entry more
pub behind : (js : List Entry) (e : Entry) (f : ℕ) (y : Flight) → IsFlight (step (after js) e) f y → IsFlight (after (js ++ e ∷ [])) f y
behind js e f y there = subst (λ (s : State). IsFlight s f y) (sym (after_push js e)) there

-- a flight that another lost stays lost
pub lost_more : (budget : ℕ) (js : List Entry) (e : Entry) (q f : ℕ) → Allowed budget (after js) e → WasLost js q f → WasLost (js ++ e ∷ []) q f
lost_more budget js e q f may w =
    let y = gone_stays budget f (after js) e w.flight may w.there w.gone_now in
    record {
      by = w.by;
      other = w.other;
      lost = among_more (Lost w.by f) e js w.lost;
      entered = entered_more js e q f w.entered;
      flight = y.0;
      there = behind js e f y.0 y.1;
      gone_now = y.2;
    }

-- ---- a flight that is awaited
nobody : (q : ℕ) (x : Flight) → is_one_of q x.queries ≡ true → x.queries ≡ [] → ⊥
nobody q x one none = true≢false (sym one ∙ ap (is_one_of q) none)

waits_on : (js : List Entry) (e : Entry) (q f : ℕ) (x y : Flight) → IsFlight (after (js ++ e ∷ [])) f y → FliesOn q x y → x.phase ≡ flying → is_one_of q x.queries ≡ true
    → WaitsIn (after (js ++ e ∷ [])) q f ⊎ (IsOwed (after (js ++ e ∷ [])) q f ⊎ WasLost (js ++ e ∷ []) q f)
waits_on js e q f x y there on flies one =
    ⊎_elim
    (λ (same : y.phase ≡ x.phase). inl (y, there, same ∙ flies, on.awaited ∙ one))
    (λ (rest : ((x.phase ≡ flying) × (is_landed y.phase ≡ true)) ⊎ (x.queries ≡ [])). ⊎_elim
    (λ (w : (x.phase ≡ flying) × (is_landed y.phase ≡ true)). inr (inl (y, there, w.1, on.awaited ∙ one)))
    (λ (none : x.queries ≡ []). absurd (nobody q x one none))
    rest)
    on.phase

owed_on : (js : List Entry) (e : Entry) (q f : ℕ) (x y : Flight) → IsFlight (after (js ++ e ∷ [])) f y → FliesOn q x y → is_landed x.phase ≡ true → is_one_of q x.queries ≡ true
    → IsOwed (after (js ++ e ∷ [])) q f
owed_on js e q f x y there on landed_so one =
    ⊎_elim
    (λ (same : y.phase ≡ x.phase). (y, there, ap is_landed same ∙ landed_so, on.awaited ∙ one))
    (λ (rest : ((x.phase ≡ flying) × (is_landed y.phase ≡ true)) ⊎ (x.queries ≡ [])). ⊎_elim
    (λ (w : (x.phase ≡ flying) × (is_landed y.phase ≡ true)). (y, there, w.1, on.awaited ∙ one))
    (λ (none : x.queries ≡ []). absurd (nobody q x one none))
    rest)
    on.phase

-- a flight that goes on for the query is still awaited
pub await_on : (budget : ℕ) (js : List Entry) (e : Entry) (q f : ℕ) (t : Target) → Allowed budget (after js) e → (a : IsAwait js q f t) → (y : Flight) → IsFlight (step (after js) e) f y → FliesOn q a.flight y → IsAwait (js ++ e ∷ []) q f t
await_on budget js e q f t may a y known on =
    let there = behind js e f y known in
    record {
      flight = y;
      there = there;
      target = on.target ∙ a.target;
      plain = a.plain;
      entered = entered_more js e q f a.entered;
      stands = ⊎_elim
          (λ (w : WaitsIn (after js) q f). let same = one_flight (after js) f w.0 a.flight w.1 a.there in
          waits_on js e q f a.flight y there on (ap (λ (x : Flight). x.phase) (sym same) ∙ w.2) (ap (λ (x : Flight). is_one_of q x.queries) (sym same) ∙ w.3))
          (λ (rest : IsOwed (after js) q f ⊎ WasLost js q f). ⊎_elim
          (λ (o : IsOwed (after js) q f). let same = one_flight (after js) f o.0 a.flight o.1 a.there in
          inr (inl (owed_on js e q f a.flight y there on (ap (λ (x : Flight). is_landed x.phase) (sym same) ∙ o.2) (ap (λ (x : Flight). is_one_of q x.queries) (sym same) ∙ o.3))))
          (λ (l : WasLost js q f). inr (inr (lost_more budget js e q f may l)))
          rest)
          a.stands;
    }

await_lost : (budget : ℕ) (js : List Entry) (e : Entry) (q f : ℕ) (t : Target) → Allowed budget (after js) e → IsAwait js q f t → IsLostBy q f e → IsAwait (js ++ e ∷ []) q f t
await_lost budget js e q f t may a by =
    let may_lose : Allowed budget (after js) (Lost by.0 f) = subst (λ (x : Entry). Allowed budget (after js) x) by.1 may in
    let y = lost_goes budget by.0 f (after js) a.flight may_lose a.there in
    let known : IsFlight (step (after js) e) f y.0 = subst (λ (x : Entry). IsFlight (step (after js) x) f y.0) (sym by.1) y.1 in
    let there = behind js e f y.0 known in
    let entered = entered_more js e q f a.entered in
    record {
      flight = y.0;
      there = there;
      target = y.3 ∙ a.target;
      plain = a.plain;
      entered = entered;
      stands = inr (inr (record { by = by.0; other = by.2; lost = (length js, get_last js e ∙ ap Some by.1); entered = entered; flight = y.0; there = there; gone_now = y.2 }));
    }

await_more : (budget : ℕ) (js : List Entry) (e : Entry) (q f : ℕ) (t : Target) → Allowed budget (after js) e → names q e ≡ false → IsAwait js q f t → IsAwait (js ++ e ∷ []) q f t
await_more budget js e q f t may h a =
    ⊎_elim
    (λ (w : (y : Flight) × IsFlight (step (after js) e) f y × FliesOn q a.flight y). await_on budget js e q f t may a w.0 w.1 w.2)
    (await_lost budget js e q f t may a)
    (carried budget q f (after js) e a.flight may h a.there)

-- ---- no flight more is awaited
not_joined : (q f : ℕ) (e : Entry) → names q e ≡ false → e ≡ Joined q f → ⊥
not_joined q f e h is = true≢false (sym (ap (names q) is ∙ eq-eqb q q refl) ∙ h)

not_begun : (q p f : ℕ) (t : Target) (e : Entry) → names q e ≡ false → e ≡ Began p f t → is_one_of q (p ∷ []) ≡ true → ⊥
not_begun q p f t e h is one = split (p == q) (sym (ap (names q) is) ∙ h) one
  where
    split : (b : Bool) → b ≡ false → b || false ≡ true → ⊥
    split true lacks stands = true≢false lacks
    split false lacks stands = true≢false (sym stands)

awaited_before : (budget q f : ℕ) (s : State) (e : Entry) (y : Flight) → Allowed budget s e → names q e ≡ false → IsFlight (step s e) f y → y.phase ≢ gone → is_one_of q y.queries ≡ true → WaitsIn s q f ⊎ IsOwed s q f
awaited_before budget q f s e y may h known alive one =
    ⊎_elim
    (λ (o : Older s e f y). ⊎_elim
    (λ (before : is_one_of q o.flight.queries ≡ true). split o.flight o.there before o.flight.phase refl)
    (λ (is : e ≡ Joined q f). absurd (not_joined q f e h is))
    (o.was.awaited q one))
    (λ (n : Newer s e f y). absurd (not_begun q n.by f n.target e h n.is (ap (λ (z : Flight). is_one_of q z.queries) (sym n.flight) ∙ one)))
    (came_from budget f s e y may known)
  where
    split : (x : Flight) → IsFlight s f x → is_one_of q x.queries ≡ true → (p : Phase) → x.phase ≡ p → WaitsIn s q f ⊎ IsOwed s q f
    split x there before flying is = inl (x, there, is, before)
    split x there before (landed size) is = inr (x, there, ap is_landed is, before)
    split x there before gone is =
        let z = gone_stays budget f s e x may there is in
        absurd (alive (ap (λ (w : Flight). w.phase) (one_flight (step s e) f y z.0 known z.1) ∙ z.2))

flying≢gone : flying ≢ gone
flying≢gone e = cc

landed_not_gone : (p : Phase) → is_landed p ≡ true → p ≢ gone
landed_not_gone p l e = true≢false (sym l ∙ ap is_landed e)

no_more : (budget : ℕ) (js : List Entry) (e : Entry) (q f : ℕ) → Allowed budget (after js) e → names q e ≡ false → WaitsIn (after (js ++ e ∷ [])) q f ⊎ IsOwed (after (js ++ e ∷ [])) q f → WaitsIn (after js) q f ⊎ IsOwed (after js) q f
no_more budget js e q f may h either =
    let here : WaitsIn (step (after js) e) q f ⊎ IsOwed (step (after js) e) q f = subst (λ (s : State). WaitsIn s q f ⊎ IsOwed s q f) (after_push js e) either in
    ⊎_elim
    (λ (w : WaitsIn (step (after js) e) q f). awaited_before budget q f (after js) e w.0 may h w.1 (λ g. flying≢gone (sym w.2 ∙ g)) w.3)
    (λ (o : IsOwed (step (after js) e) q f). awaited_before budget q f (after js) e o.0 may h o.1 (landed_not_gone o.0.phase o.2) o.3)
    here

-- ---- the law
pub knows_more : (budget : ℕ) (js : List Entry) (e : Entry) (p : Facts) → Legal budget js → Allowed budget (after js) e → names p.query e ≡ false → Knows js p → Knows (js ++ e ∷ []) p
knows_more budget js e p legal may h k = record {
  entered = k.entered;
  calls = k.calls ∙ sym (calls_stay p.query js e h);
  live = k.live ∙ sym (ap (λ (s : State). is_open s p.query) (after_push js e) ∙ open_stays budget p.query (after js) e may h);
  asks = k.asks ∙ sym (asks_stay p.query nothing js e h);
  losses = k.losses ∙ sym (losses_stay p.query js e h);
  wrecks = k.wrecks ∙ sym (wrecks_stay p.query nothing js e h);
  lost = λ f among. lost_more budget js e p.query f may (k.lost f among);
  lost_once = k.lost_once;
  lost_apart = k.lost_apart;
  awaits_once = k.awaits_once;
  awaits = λ f t among. await_more budget js e p.query f t may h (k.awaits f t among);
  all_awaits = λ f either. k.all_awaits f (no_more budget js e p.query f may h either);
}
