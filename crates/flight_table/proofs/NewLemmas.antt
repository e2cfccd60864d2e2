-- What the pass of a query says that has just opened.
use Rattle.std.proofs.Common.{◌≡◌, ◌⊎◌, ℕ, ◌+◌, Bool, true, false, List, [], ◌∷◌, ◌++◌, length, Option, slice_get, refl, sym, ap, ◌∙◌, subst, ⊎_elim, arith, append-nil, eq-eqb}
use Rattle.std.specs.Option.{unwrap_or}
use Rattle.std.proofs.lemmas.Option.{slice_get_within}
use Rattle.link_io.specs.Origin.{Origin}
use Rattle.link_io.specs.declared.target.Key.{Key}
use Rattle.flight_journal.specs.declared.entry.Entry.{Entry}
use Rattle.flight_journal.specs.declared.entry.Entry.TheVariants.{Opened}
use Rattle.flight_journal.specs.State.{State, nothing, WaitsIn, IsOwed, IsOpen, is_open}
use Rattle.flight_journal.specs.Journal.{after, step, Legal}
use Rattle.flight_journal.specs.Count.{names, one_if, calls_of, losses_of, asked_in, asks_from, wrecked_in, wrecks_from, is_this, loser_in}
use Rattle.flight_journal.proofs.PushLemmas.{after_push}
use Rattle.flight_journal.proofs.ListLemmas.{none_in_nothing, get_last}
use Rattle.flight_journal.proofs.CountLemmas.{calls_push, losses_push, asks_push, wrecks_push, losses_stay, asks_stay, wrecks_stay, unseen}
use Rattle.flight_journal.proofs.LegalLemmas.{waits_open, owed_open}
use Rattle.flight_table.specs.Facts.{new_pass}
use Rattle.flight_table.specs.Knows.{Knows}

-- ---- a query that no entry names
unnamed : (q : ℕ) (e : Entry) (es : List Entry) → calls_of q (e ∷ es) ≡ 0 → (names q e ≡ false) × (calls_of q es ≡ 0)
unnamed q e es none = split (names q e) refl none
  where
    split : (b : Bool) → names q e ≡ b → one_if b + calls_of q es ≡ 0 → (names q e ≡ false) × (calls_of q es ≡ 0)
    split true is k = absurd (omega arith)
    split false is k = (is, omega arith)

lost_none : (q : ℕ) (es : List Entry) → calls_of q es ≡ 0 → losses_of q es ≡ 0
lost_none q [] none = refl
lost_none q (e ∷ es) none =
    let u = unnamed q e es none in
    let rest = lost_none q es u.1 in
    let here : one_if (is_this q (loser_in e)) + 0 ≡ 0 = losses_stay q [] e u.0 in
    omega arith

asked_none : (q : ℕ) (s : State) (es : List Entry) → calls_of q es ≡ 0 → asks_from q s es ≡ []
unfolding asks_from
asked_none q s [] none = refl
asked_none q s (e ∷ es) none =
    let u = unnamed q e es none in
    ap (λ (l : List Key). l ++ asks_from q (step s e) es) (sym (append-nil (asked_in q s e)) ∙ asks_stay q s [] e u.0) ∙ asked_none q (step s e) es u.1

wrecked_none : (q : ℕ) (s : State) (es : List Entry) → calls_of q es ≡ 0 → wrecks_from q s es ≡ []
unfolding wrecks_from
wrecked_none q s [] none = refl
wrecked_none q s (e ∷ es) none =
    let u = unnamed q e es none in
    ap (λ (l : List ℕ). l ++ wrecks_from q (step s e) es) (sym (append-nil (wrecked_in q s e)) ∙ wrecks_stay q s [] e u.0) ∙ wrecked_none q (step s e) es u.1

-- ---- a query that has just opened
pub knows_new : (budget q base : ℕ) (origin : Origin) (journal : List Entry) → Legal budget journal → q ≡ length (after journal).live → Knows (journal ++ Opened q ∷ []) (new_pass q base origin)
knows_new budget q base origin journal legal number =
    let none = unseen budget q journal legal (omega arith) in
    let one : one_if (names q (Opened q)) ≡ 1 = ap one_if (eq-eqb q q refl) in
    let calls = calls_push q journal (Opened q) in
    let losses = losses_push q journal (Opened q) in
    let lost = lost_none q journal none in
    record {
      entered = omega arith;
      calls = omega arith;
      live = sym (ap (λ (s : State). is_open s q) (after_push journal (Opened q)) ∙ ap (λ (o : Option Bool). unwrap_or o false) (ap (slice_get ((after journal).live ++ true ∷ [])) number ∙ get_last (after journal).live true));
      asks = sym (asks_push q nothing journal (Opened q) ∙ append-nil _ ∙ asked_none q nothing journal none);
      losses = sym (losses ∙ ap (λ n. n + 0) lost);
      wrecks = sym (wrecks_push q nothing journal (Opened q) ∙ append-nil _ ∙ wrecked_none q nothing journal none);
      lost = λ f among. absurd (none_in_nothing among.0 f among.1);
      lost_once = λ i j f h k. absurd (none_in_nothing i f h);
      lost_apart = λ f t among. absurd (none_in_nothing among.0 (f, t) among.1);
      awaits_once = λ i j f h k. absurd (none_in_nothing i f h);
      awaits = λ f t among. absurd (none_in_nothing among.0 (f, t) among.1);
      all_awaits = λ f either. absurd (nothing_awaited f (subst (λ (s : State). WaitsIn s q f ⊎ IsOwed s q f) (after_push journal (Opened q)) either));
    }
  where
    closed : IsOpen (after journal) q → ⊥
    closed alive = let below = slice_get_within (after journal).live q true alive in let bad : ⊥ = omega arith in bad

    nothing_awaited : (f : ℕ) → WaitsIn (step (after journal) (Opened q)) q f ⊎ IsOwed (step (after journal) (Opened q)) q f → ⊥
    nothing_awaited f either =
        ⊎_elim
        (λ (w : WaitsIn (step (after journal) (Opened q)) q f). closed (waits_open budget q f journal legal w))
        (λ (o : IsOwed (step (after journal) (Opened q)) q f). closed (owed_open budget q f journal legal o))
        either
