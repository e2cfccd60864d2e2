-- What the pass of a query says that has just taken a value, or landed or lost a flight.
use Rattle.std.proofs.Common.{◌≡◌, ◌≢◌, ◌⊎◌, ℕ, ◌+◌, ◌==◌, true, true≢false, List, [], ◌∷◌, ◌++◌, Option, Some, None, slice_get, refl, sym, ap, ◌∙◌, subst, inl, inr, ⊎_elim, arith, append-nil, add-zero, eq-eqb}
use Rattle.std.specs.Option.{option_map}
use Rattle.std.proofs.lemmas.Bool.{cases_eq}
use Rattle.link_io.specs.declared.target.Target.{Target}
use Rattle.flight_journal.specs.declared.entry.Entry.{Entry}
use Rattle.flight_journal.specs.declared.entry.Entry.TheVariants.{Taken, Landed, Lost}
use Rattle.flight_journal.specs.State.{State, Flight, nothing, is_one_of, WaitsIn, IsOwed, parted, came_to, ended, change, is_open}
use Rattle.flight_journal.specs.Journal.{after, step, Allowed}
use Rattle.flight_journal.specs.Count.{one_if, calls_of, losses_of, only_if, is_wreck, asks_from, wrecks_from}
use Rattle.flight_journal.proofs.PushLemmas.{after_push}
use Rattle.flight_journal.proofs.ListLemmas.{get_changed, get_unchanged}
use Rattle.flight_journal.proofs.CountLemmas.{calls_push, losses_push, asks_push, wrecks_push}
use Rattle.flight_journal.proofs.LegalLemmas.{never_itself}
use Rattle.flight_table.specs.Facts.{Facts, taken_pass, landed_pass, lost_pass, IsWithout}
use Rattle.flight_table.specs.Knows.{Knows}
use Rattle.flight_table.proofs.KnowLemmas.{lost_more, await_on}

-- what the entry does: the query awaits this flight no more, and all others are as they were
record Parts (js : List Entry) (e : Entry) (q f : ℕ) (wrecks : List ℕ) (losses : ℕ) : Type 0 where
  others : (g : ℕ) → g ≢ f → slice_get (step (after js) e).flights g ≡ slice_get (after js).flights g
  alone : (y : Flight) → slice_get (step (after js) e).flights f ≡ Some y → is_one_of q y.queries ≡ true → ⊥
  calls : calls_of q (js ++ e ∷ []) ≡ calls_of q js + 1
  live : is_open (step (after js) e) q ≡ is_open (after js) q
  asks : asks_from q nothing (js ++ e ∷ []) ≡ asks_from q nothing js
  lost : losses_of q (js ++ e ∷ []) ≡ losses_of q js + losses
  wrecked : wrecks_from q nothing (js ++ e ∷ []) ≡ wrecks_from q nothing js ++ wrecks

knows_parting : (budget f : ℕ) (js : List Entry) (e : Entry) (p : Facts) (wrecks : List ℕ) (losses : ℕ) (rest : List (ℕ × Target)) (hand : Option ℕ) → Allowed budget (after js) e → Parts js e p.query f wrecks losses → IsWithout f p.awaits rest
    → Knows js p → Knows (js ++ e ∷ []) (record p { calls = p.calls + 1; losses = p.losses + losses; wrecks = p.wrecks ++ wrecks; hand = hand; awaits = rest })
knows_parting budget f js e p wrecks losses rest hand may a without k =
    let known = k.calls in
    let calls = a.calls in
    record {
      entered = omega arith;
      calls = omega arith;
      live = k.live ∙ sym (ap (λ (s : State). is_open s p.query) (after_push js e) ∙ a.live);
      asks = k.asks ∙ sym a.asks;
      losses = ap (λ n. n + losses) k.losses ∙ sym a.lost;
      wrecks = ap (λ l. l ++ wrecks) k.wrecks ∙ sym a.wrecked;
      lost = λ g among. lost_more budget js e p.query g may (k.lost g among);
      lost_once = k.lost_once;
      lost_apart = λ g t among. k.lost_apart g t (without.only g t among).0;
      awaits_once = without.once;
      awaits = λ g t among. let was = without.only g t among in let old = k.awaits g t was.0 in
          await_on budget js e p.query g t may old old.flight (a.others g was.1 ∙ old.there) (record { target = refl; awaited = refl; phase = inl refl });
      all_awaits = λ g either. let now = subst (λ (s : State). WaitsIn s p.query g ⊎ IsOwed s p.query g) (after_push js e) either in ⊎_elim
          (λ (i : g ≡ f). absurd (nobody g i now))
          (λ (ne : g ≢ f). let w = k.all_awaits g (before g ne now) in (w.0, without.same g w.0 ne w.1))
          (cases_eq g f);
    }
  where
    nobody : (g : ℕ) → g ≡ f → WaitsIn (step (after js) e) p.query g ⊎ IsOwed (step (after js) e) p.query g → ⊥
    nobody g i either =
        ⊎_elim
        (λ (w : WaitsIn (step (after js) e) p.query g). a.alone w.0 (ap (slice_get (step (after js) e).flights) (sym i) ∙ w.1) w.3)
        (λ (o : IsOwed (step (after js) e) p.query g). a.alone o.0 (ap (slice_get (step (after js) e).flights) (sym i) ∙ o.1) o.3)
        either

    before : (g : ℕ) → g ≢ f → WaitsIn (step (after js) e) p.query g ⊎ IsOwed (step (after js) e) p.query g → WaitsIn (after js) p.query g ⊎ IsOwed (after js) p.query g
    before g ne either =
        ⊎_elim
        (λ (w : WaitsIn (step (after js) e) p.query g). inl (w.0, sym (a.others g ne) ∙ w.1, w.2, w.3))
        (λ (o : IsOwed (step (after js) e) p.query g). inr (o.0, sym (a.others g ne) ∙ o.1, o.2, o.3))
        either

-- one flight changes, and is awaited by the query no more
gone_from : (q f : ℕ) (h : Flight → Flight) (xs : List Flight) → ((x : Flight) → is_one_of q (h x).queries ≡ true → ⊥) → (y : Flight) → slice_get (change f h xs) f ≡ Some y → is_one_of q y.queries ≡ true → ⊥
gone_from q f h xs never y known one = split (slice_get xs f) (sym (get_changed f h xs) ∙ known)
  where
    split : (o : Option Flight) → option_map h o ≡ Some y → ⊥
    split None m = cc
    split (Some x) m = let same : h x ≡ y = cc in never x (ap (λ (z : Flight). is_one_of q z.queries) same ∙ one)

pub knows_lost : (budget f : ℕ) (js : List Entry) (p : Facts) (rest : List (ℕ × Target)) → Allowed budget (after js) (Lost p.query f) → IsWithout f p.awaits rest → Knows js p → Knows (js ++ Lost p.query f ∷ []) (lost_pass rest p)
knows_lost budget f js p rest may without k =
    subst (λ l. Knows (js ++ Lost p.query f ∷ []) (record p { calls = p.calls + 1; losses = p.losses + 1; wrecks = l; hand = None; awaits = rest })) (append-nil p.wrecks)
    (knows_parting budget f js (Lost p.query f) p [] 1 rest None may facts without k)
  where
    own : (p.query == p.query) ≡ true
    own = eq-eqb p.query p.query refl

    facts : Parts js (Lost p.query f) p.query f [] 1
    facts = record {
      others = λ g ne. get_unchanged f g ended (after js).flights ne;
      alone = gone_from p.query f ended (after js).flights (λ x one. true≢false (sym one));
      calls = calls_push p.query js (Lost p.query f) ∙ ap (λ n. calls_of p.query js + n) (ap one_if own);
      live = refl;
      asks = asks_push p.query nothing js (Lost p.query f) ∙ append-nil _;
      lost = losses_push p.query js (Lost p.query f) ∙ ap (λ n. losses_of p.query js + n) (ap one_if own);
      wrecked = wrecks_push p.query nothing js (Lost p.query f);
    }

pub knows_landed : (budget f : ℕ) (size : Option ℕ) (js : List Entry) (p : Facts) (rest : List (ℕ × Target)) → Allowed budget (after js) (Landed p.query f size) → IsWithout f p.awaits rest → Knows js p → Knows (js ++ Landed p.query f size ∷ []) (landed_pass f size rest p)
knows_landed budget f None js p rest may without k =
    subst (λ n. Knows (js ++ Landed p.query f None ∷ []) (record p { calls = p.calls + 1; losses = n; wrecks = p.wrecks ++ f ∷ []; hand = None; awaits = rest })) (add-zero p.losses)
    (knows_parting budget f js (Landed p.query f None) p (f ∷ []) 0 rest None may facts without k)
  where
    own : (p.query == p.query) ≡ true
    own = eq-eqb p.query p.query refl

    facts : Parts js (Landed p.query f None) p.query f (f ∷ []) 0
    facts = record {
      others = λ g ne. get_unchanged f g (came_to None p.query) (after js).flights ne;
      alone = gone_from p.query f (came_to None p.query) (after js).flights (λ x one. never_itself p.query x.queries one);
      calls = calls_push p.query js (Landed p.query f None) ∙ ap (λ n. calls_of p.query js + n) (ap one_if own);
      live = refl;
      asks = asks_push p.query nothing js (Landed p.query f None) ∙ append-nil _;
      lost = losses_push p.query js (Landed p.query f None);
      wrecked = wrecks_push p.query nothing js (Landed p.query f None) ∙ ap (λ b. wrecks_from p.query nothing js ++ only_if b (f ∷ [])) own;
    }
knows_landed budget f (Some size) js p rest may without k =
    subst (λ n. Knows (js ++ Landed p.query f (Some size) ∷ []) (record p { calls = p.calls + 1; losses = n; wrecks = p.wrecks ++ []; hand = None; awaits = rest })) (add-zero p.losses)
    (knows_parting budget f js (Landed p.query f (Some size)) p [] 0 rest None may facts without k)
  where
    own : (p.query == p.query) ≡ true
    own = eq-eqb p.query p.query refl

    facts : Parts js (Landed p.query f (Some size)) p.query f [] 0
    facts = record {
      others = λ g ne. get_unchanged f g (came_to (Some size) p.query) (after js).flights ne;
      alone = gone_from p.query f (came_to (Some size) p.query) (after js).flights (λ x one. never_itself p.query x.queries one);
      calls = calls_push p.query js (Landed p.query f (Some size)) ∙ ap (λ n. calls_of p.query js + n) (ap one_if own);
      live = refl;
      asks = asks_push p.query nothing js (Landed p.query f (Some size)) ∙ append-nil _;
      lost = losses_push p.query js (Landed p.query f (Some size));
      wrecked = wrecks_push p.query nothing js (Landed p.query f (Some size));
    }

pub knows_taken : (budget f : ℕ) (js : List Entry) (p : Facts) (rest : List (ℕ × Target)) → Allowed budget (after js) (Taken p.query f) → IsWithout f p.awaits rest → Knows js p
    → Knows (js ++ Taken p.query f ∷ []) (taken_pass (only_if (is_wreck (slice_get (after js).flights f)) (f ∷ [])) rest p)
knows_taken budget f js p rest may without k =
    subst (λ n. Knows (js ++ Taken p.query f ∷ []) (record p { calls = p.calls + 1; losses = n; wrecks = p.wrecks ++ only_if (is_wreck (slice_get (after js).flights f)) (f ∷ []); hand = p.hand; awaits = rest })) (add-zero p.losses)
    (knows_parting budget f js (Taken p.query f) p (only_if (is_wreck (slice_get (after js).flights f)) (f ∷ [])) 0 rest p.hand may facts without k)
  where
    own : (p.query == p.query) ≡ true
    own = eq-eqb p.query p.query refl

    facts : Parts js (Taken p.query f) p.query f (only_if (is_wreck (slice_get (after js).flights f)) (f ∷ [])) 0
    facts = record {
      others = λ g ne. get_unchanged f g (parted p.query) (after js).flights ne;
      alone = gone_from p.query f (parted p.query) (after js).flights (λ x one. never_itself p.query x.queries one);
      calls = calls_push p.query js (Taken p.query f) ∙ ap (λ n. calls_of p.query js + n) (ap one_if own);
      live = refl;
      asks = asks_push p.query nothing js (Taken p.query f) ∙ append-nil _;
      lost = losses_push p.query js (Taken p.query f);
      wrecked = wrecks_push p.query nothing js (Taken p.query f) ∙ ap (λ b. wrecks_from p.query nothing js ++ only_if b (only_if (is_wreck (slice_get (after js).flights f)) (f ∷ []))) own;
    }
