-- What the pass of a query says that has just taken what is kept.
use Rattle.std.proofs.Common.{◌≡◌, ◌⊎◌, ℕ, ◌==◌, true, List, [], ◌∷◌, ◌++◌, Option, refl, sym, ap, ◌∙◌, subst, inl, arith, append-nil, add-zero, eq-eqb}
use Rattle.link_io.specs.declared.target.Key.{Key}
use Rattle.link_io.specs.declared.target.Target.{Target}
use Rattle.flight_journal.specs.declared.entry.Entry.{Entry}
use Rattle.flight_journal.specs.declared.entry.Entry.TheVariants.{Hit}
use Rattle.flight_journal.specs.State.{State, Flight, nothing, WaitsIn, IsOwed, IsKept, is_open}
use Rattle.flight_journal.specs.Journal.{after, Allowed, Legal}
use Rattle.flight_journal.specs.Count.{names, one_if, losses_of, key_in, only_if, asked_in, asks_from}
use Rattle.flight_journal.proofs.PushLemmas.{after_push}
use Rattle.flight_journal.proofs.CountLemmas.{calls_push, losses_push, asks_push, wrecks_push}
use Rattle.flight_table.specs.Facts.{Facts, hit_pass}
use Rattle.flight_table.specs.Knows.{Knows}
use Rattle.flight_table.proofs.KnowLemmas.{lost_more, await_on}

pub knows_hit : (budget f : ℕ) (js : List Entry) (p : Facts) (u : Target) → Legal budget js → Allowed budget (after js) (Hit p.query f) → IsKept (after js) f u → Knows js p → Knows (js ++ Hit p.query f ∷ []) (hit_pass u.key p)
knows_hit budget f js p u legal may kept k =
    let e = Hit p.query f in
    let q = p.query in
    let calls = calls_push q js e in
    let own : (q == q) ≡ true = eq-eqb q q refl in
    let one : one_if (names q e) ≡ 1 = ap one_if own in
    let known = k.calls in
    let key : asked_in q (after js) e ≡ u.key ∷ [] =
    ap (λ (o : Option Flight). only_if (q == q) (key_in o)) kept.1 ∙ ap (λ b. only_if b (kept.0.target.key ∷ [])) own ∙ ap (λ (t : Target). t.key ∷ []) kept.3 in
    record {
      entered = omega arith;
      calls = omega arith;
      live = k.live ∙ sym (ap (λ (s : State). is_open s q) (after_push js e));
      asks = ap (λ (l : List Key). l ++ u.key ∷ []) k.asks ∙ sym (asks_push q nothing js e ∙ ap (λ (l : List Key). asks_from q nothing js ++ l) key);
      losses = k.losses ∙ sym (losses_push q js e ∙ add-zero (losses_of q js));
      wrecks = k.wrecks ∙ sym (wrecks_push q nothing js e ∙ append-nil _);
      lost = λ g among. lost_more budget js e q g may (k.lost g among);
      lost_once = k.lost_once;
      lost_apart = k.lost_apart;
      awaits_once = k.awaits_once;
      awaits = λ g t among. let a = k.awaits g t among in await_on budget js e q g t may a a.flight a.there (record { target = refl; awaited = refl; phase = inl refl });
      all_awaits = λ g either. k.all_awaits g (subst (λ (s : State). WaitsIn s q g ⊎ IsOwed s q g) (after_push js e) either);
    }
