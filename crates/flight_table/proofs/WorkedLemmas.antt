-- A worked table is sound, and what its passes say is so.
use Rattle.std.proofs.Common.{◌≡◌, ◌≢◌, ◌⊎◌, ℕ, zero, suc, ◌<◌, ◌≤◌, ◌==◌, ◌&&◌, Bool, true, false, true≢false, not, List, [], ◌∷◌, ◌++◌, Some, None, slice_get, refl, sym, ap, ◌∙◌, subst, inl, inr, ⊎_elim, arith}
use Rattle.std.proofs.lemmas.Option.{same_Some, none-some}
use Rattle.shard_cache.specs.Recency.{total_of}
use Rattle.link_io.specs.Target.{IsPlain}
use Rattle.link_io.specs.declared.target.Key.{Key}
use Rattle.link_io.specs.declared.target.Key.TheVariants as key
use Rattle.link_io.specs.declared.target.Target.{Target}
use Rattle.flight_journal.specs.declared.entry.Entry.TheVariants.{Opened, Began, Joined, Landed, Evicted, Taken}
use Rattle.flight_journal.specs.State.{Phase, flying, landed, gone, Flight, State, nothing, is_one_of, WaitsIn, IsOwed, Flies, IsKept}
use Rattle.flight_journal.specs.Journal.{step, after_from, after, IsSettled, IsFreeKey, LegalFrom, Legal}
use Rattle.flight_journal.specs.Count.{Among, IsOnce, asks_from, wrecks_from, names}
use Rattle.flight_journal.specs.Worked.{two_landings, an_oversized_landing, index_at}
use Rattle.flight_journal.proofs.LegalLemmas.{one_key_after}
use Rattle.flight_rows.specs.Sight.{IsSightSound, ArePlain}
use Rattle.flight_table.specs.Knows.{IsAwait}
use Rattle.flight_table.specs.Tells.{Tells}
use Rattle.flight_table.specs.Follows.{Follows}
use Rattle.flight_table.specs.Worked.{an_owed_value, table_of, landed_three, awaits_one, took_it, forgot_it}
use Rattle.flight_table.proofs.FollowLemmas.{names_other, either_false, follows_by}

both : (a b : Bool) → a && b ≡ true → (a ≡ true) × (b ≡ true)
both true b h = (refl, h)
both false b h = absurd (true≢false (sym h))

-- ---- states in which each flying flight is awaited
abbrev is_awaited : Phase → List ℕ → Bool
is_awaited flying [] = false
is_awaited flying (q ∷ qs) = true
is_awaited (landed size) qs = true
is_awaited gone qs = true

abbrev are_awaited : List Flight → Bool
are_awaited [] = true
are_awaited (x ∷ xs) = is_awaited x.phase x.queries && are_awaited xs

one_awaited : (p : Phase) (qs : List ℕ) → is_awaited p qs ≡ true → p ≡ flying → qs ≢ []
one_awaited flying [] h e same = true≢false (sym h)
one_awaited flying (q ∷ qs) h e same = let bad : ⊥ = cc in bad
one_awaited (landed size) qs h e same = let bad : ⊥ = cc in bad
one_awaited gone qs h e same = let bad : ⊥ = cc in bad

all_awaited : (xs : List Flight) → are_awaited xs ≡ true → (f : ℕ) (x : Flight) → slice_get xs f ≡ Some x → x.phase ≡ flying → x.queries ≢ []
all_awaited [] h f x e = absurd (none-some x e)
all_awaited (y ∷ xs) h zero x e =
    subst (λ (z : Flight). z.phase ≡ flying → z.queries ≢ []) (same_Some y x e) (one_awaited y.phase y.queries (both (is_awaited y.phase y.queries) (are_awaited xs) h).0)
all_awaited (y ∷ xs) h (suc f) x e = all_awaited xs (both (is_awaited y.phase y.queries) (are_awaited xs) h).1 f x e

settled : (s : State) (total : ℕ) → total_of s.kept ≡ total → total ≤ 10 → are_awaited s.flights ≡ true → IsSettled 10 s
settled s total is low all = record { within = subst (λ n. n ≤ 10) (sym is) low; awaited = all_awaited s.flights all }

-- ---- keys that no flight has
abbrev is_other : ℕ → Key → Bool
is_other n (key.Index (m ∷ [])) = not (m == n)
is_other n (key.Index []) = false
is_other n (key.Index (m ∷ k ∷ ks)) = false
is_other n (key.Shard d) = false

abbrev are_others : ℕ → List Flight → Bool
are_others n [] = true
are_others n (x ∷ xs) = is_other n x.target.key && are_others n xs

not_key : (n : ℕ) (xs : List Flight) → is_other n (index_at n).key ≡ false → are_others n xs ≡ true → (f : ℕ) (x : Flight) → slice_get xs f ≡ Some x → x.target.key ≢ (index_at n).key
not_key n [] self h f x e same = none-some x e
not_key n (y ∷ xs) self h zero x e same =
    true≢false (sym (both (is_other n y.target.key) (are_others n xs) h).0 ∙ ap (is_other n) (ap (λ (z : Flight). z.target.key) (same_Some y x e) ∙ same) ∙ self)
not_key n (y ∷ xs) self h (suc f) x e same = not_key n xs self (both (is_other n y.target.key) (are_others n xs) h).1 f x e same

free : (n : ℕ) (s : State) → is_other n (index_at n).key ≡ false → are_others n s.flights ≡ true → IsFreeKey s (index_at n).key
free n s self h f t holds same =
    ⊎_elim
    (λ (w : Flies s f t). not_key n s.flights self h f w.0 w.1 (ap (λ (u : Target). u.key) w.3 ∙ same))
    (λ (w : IsKept s f t). not_key n s.flights self h f w.0 w.1 (ap (λ (u : Target). u.key) w.3 ∙ same))
    holds

-- ---- a query that waits in no such flight
not_one : (s : State) (q f : ℕ) (y : Flight) → slice_get s.flights f ≡ Some y → is_one_of q y.queries ≡ false → ¬ WaitsIn s q f
not_one s q f y there none w = true≢false (sym w.3 ∙ ap (λ (z : Flight). is_one_of q z.queries) (same_Some w.0 y (sym w.1 ∙ there)) ∙ none)

abbrev flight_of : ℕ → Phase → List ℕ → Flight
flight_of n phase queries = record { target = index_at n; phase = phase; queries = queries }

over : (kept : List (ℕ × ℕ)) (total : ℕ) → total_of kept ≡ total → 10 < total → 10 < total_of kept
over kept total is high = subst (λ n. 10 < n) (sym is) high

-- ---- the states behind the entries, one by one
abbrev both_opened : State
both_opened = step (step nothing (Opened 0)) (Opened 1)

abbrev one_began : State
one_began = step both_opened (Began 0 0 (index_at 0))

abbrev both_landed : State
both_landed = step (step (step one_began (Began 0 1 (index_at 1))) (Landed 0 0 (Some 6))) (Landed 0 1 (Some 6))

abbrev one_left : State
one_left = step both_landed (Evicted 0)

abbrev third_began : State
third_began = step one_left (Began 0 2 (index_at 2))

abbrev third_landed : State
third_landed = step (step third_began (Joined 1 2)) (Landed 0 2 (Some 11))

abbrev third_left : State
third_left = step third_landed (Evicted 1)

-- ---- the journal is legal
pub whole_legal : Legal 10 (two_landings ++ an_oversized_landing)
unfolding LegalFrom
whole_legal = (
  (settled _ 0 refl (omega arith) refl, refl),
  (
    (settled _ 0 refl (omega arith) refl, refl),
    (
      (settled _ 0 refl (omega arith) refl, refl, refl, free 0 both_opened refl refl),
      (
        (settled _ 0 refl (omega arith) refl, refl, refl, free 1 one_began refl refl),
        (
          (settled _ 0 refl (omega arith) refl, refl, (flight_of 0 flying (0 ∷ []), refl, refl, refl)),
          (
            (settled _ 6 refl (omega arith) refl, refl, (flight_of 1 flying (0 ∷ []), refl, refl, refl)),
            (
              (over both_landed.kept 12 refl (omega arith), all_awaited both_landed.flights refl, refl),
              (
                (settled _ 6 refl (omega arith) refl, refl, refl, free 2 one_left refl refl),
                (
                  (settled _ 6 refl (omega arith) refl, refl, (index_at 2, (flight_of 2 flying (0 ∷ []), refl, refl, refl)), not_one third_began 1 2 (flight_of 2 flying (0 ∷ [])) refl refl),
                  (
                    (settled _ 6 refl (omega arith) refl, refl, (flight_of 2 flying (0 ∷ 1 ∷ []), refl, refl, refl)),
                    (
                      (over third_landed.kept 17 refl (omega arith), all_awaited third_landed.flights refl, refl),
                      (
                        (over third_left.kept 11 refl (omega arith), all_awaited third_left.flights refl, refl),
                        (
                          (settled _ 0 refl (omega arith) refl, refl, (flight_of 2 (landed (Some 11)) (1 ∷ []), refl, refl, refl)),
                          tt,
                        ),
                      ),
                    ),
                  ),
                ),
              ),
            ),
          ),
        ),
      ),
    ),
  ),
)

all_plain : ArePlain (index_at 0 ∷ index_at 1 ∷ index_at 2 ∷ [])
all_plain zero t e = subst (λ (u : Target). IsPlain u) (same_Some (index_at 0) t e) refl
all_plain (suc zero) t e = subst (λ (u : Target). IsPlain u) (same_Some (index_at 1) t e) refl
all_plain (suc (suc zero)) t e = subst (λ (u : Target). IsPlain u) (same_Some (index_at 2) t e) refl
all_plain (suc (suc (suc n))) t e = absurd (none-some t e)

pub whole_sound : IsSightSound (table_of (two_landings ++ an_oversized_landing))
unfolding after_from
whole_sound = record {
  legal = whole_legal;
  settled = settled _ 0 refl (omega arith) refl;
  dialed = refl;
  plain = all_plain;
  in_hand = λ q f e. absurd (none-some q e);
  one_key = λ f g u v hu hv same. one_key_after 10 f g (two_landings ++ an_oversized_landing) u v whole_legal hu hv same;
}

-- ---- what the passes say
no_one : {X : Type 0} (x : X) → ¬ Among x []
no_one x h = none-some x h.1

once_none : {X : Type 0} → IsOnce {X = X} []
once_none i j x p q = absurd (none-some x p)

once_one : {X : Type 0} (y : X) → IsOnce (y ∷ [])
once_one y zero zero x p q = refl
once_one y zero (suc j) x p q = absurd (none-some x q)
once_one y (suc i) j x p q = absurd (none-some x p)

-- the query neither waits in a flight without queries nor is owed its value
nobody : (s : State) (q f : ℕ) (y : Flight) → slice_get s.flights f ≡ Some y → is_one_of q y.queries ≡ false → WaitsIn s q f ⊎ IsOwed s q f → ⊥
nobody s q f y there none either =
    ⊎_elim
    (λ (w : WaitsIn s q f). not_one s q f y there none w)
    (λ (w : IsOwed s q f). true≢false (sym w.3 ∙ ap (λ (z : Flight). is_one_of q z.queries) (same_Some w.0 y (sym w.1 ∙ there)) ∙ none))
    either

no_flight : (s : State) (q f : ℕ) → slice_get s.flights f ≡ None → WaitsIn s q f ⊎ IsOwed s q f → ⊥
no_flight s q f none either =
    ⊎_elim
    (λ (w : WaitsIn s q f). none-some w.0 (sym none ∙ w.1))
    (λ (w : IsOwed s q f). none-some w.0 (sym none ∙ w.1))
    either

first_awaits : (f : ℕ) → WaitsIn (after (two_landings ++ an_oversized_landing)) 0 f ⊎ IsOwed (after (two_landings ++ an_oversized_landing)) 0 f → ⊥
unfolding after_from
first_awaits zero w = nobody (after (two_landings ++ an_oversized_landing)) 0 0 (flight_of 0 (landed (Some 6)) []) refl refl w
first_awaits (suc zero) w = nobody (after (two_landings ++ an_oversized_landing)) 0 1 (flight_of 1 (landed (Some 6)) []) refl refl w
first_awaits (suc (suc zero)) w = nobody (after (two_landings ++ an_oversized_landing)) 0 2 (flight_of 2 (landed (Some 11)) []) refl refl w
first_awaits (suc (suc (suc n))) w = no_flight (after (two_landings ++ an_oversized_landing)) 0 (suc (suc (suc n))) refl w

second_awaits : (f : ℕ) → WaitsIn (after (two_landings ++ an_oversized_landing)) 1 f ⊎ IsOwed (after (two_landings ++ an_oversized_landing)) 1 f → ⊥
unfolding after_from
second_awaits zero w = nobody (after (two_landings ++ an_oversized_landing)) 1 0 (flight_of 0 (landed (Some 6)) []) refl refl w
second_awaits (suc zero) w = nobody (after (two_landings ++ an_oversized_landing)) 1 1 (flight_of 1 (landed (Some 6)) []) refl refl w
second_awaits (suc (suc zero)) w = nobody (after (two_landings ++ an_oversized_landing)) 1 2 (flight_of 2 (landed (Some 11)) []) refl refl w
second_awaits (suc (suc (suc n))) w = no_flight (after (two_landings ++ an_oversized_landing)) 1 (suc (suc (suc n))) refl w

owed_awaits : (f : ℕ) → WaitsIn (after an_owed_value) 1 f ⊎ IsOwed (after an_owed_value) 1 f → (t : Target) × Among (f, t) awaits_one.awaits
unfolding after_from
owed_awaits zero w = absurd (nobody (after an_owed_value) 1 0 (flight_of 0 (landed (Some 6)) []) refl refl w)
owed_awaits (suc zero) w = absurd (nobody (after an_owed_value) 1 1 (flight_of 1 (landed (Some 6)) []) refl refl w)
owed_awaits (suc (suc zero)) w = (index_at 2, (zero, refl))
owed_awaits (suc (suc (suc n))) w = absurd (no_flight (after an_owed_value) 1 (suc (suc (suc n))) refl w)

awaited_at : (n : ℕ) (f : ℕ) (t : Target) → slice_get awaits_one.awaits n ≡ Some (f, t) → IsAwait an_owed_value 1 f t
unfolding after_from
awaited_at zero f t e =
    subst (λ (w : ℕ × Target). IsAwait an_owed_value 1 w.0 w.1) (same_Some (2, index_at 2) (f, t) e)
    record { flight = flight_of 2 (landed (Some 11)) (1 ∷ []); there = refl; target = refl; plain = refl; entered = inr (8, refl); stands = inr (inl (flight_of 2 (landed (Some 11)) (1 ∷ []), refl, refl, refl)) }
awaited_at (suc n) f t e = absurd (none-some (f, t) e)

pub first_tells : Tells (table_of (two_landings ++ an_oversized_landing)) landed_three
unfolding after_from asks_from wrecks_from
first_tells = record {
  knows = record {
    entered = omega arith;
    calls = refl;
    live = refl;
    asks = refl;
    losses = refl;
    wrecks = refl;
    lost = λ f h. absurd (no_one f h);
    lost_once = once_none;
    lost_apart = λ f t h. absurd (no_one (f, t) h);
    awaits_once = once_none;
    awaits = λ f t h. absurd (no_one (f, t) h);
    all_awaits = λ f w. absurd (first_awaits f w);
  };
  hand = λ f e. absurd (none-some f e);
  in_hand = λ f e. absurd (none-some 0 e);
  base = refl;
  origin = refl;
}

pub owed_tells : Tells (table_of an_owed_value) awaits_one
unfolding after_from asks_from wrecks_from
owed_tells = record {
  knows = record {
    entered = omega arith;
    calls = refl;
    live = refl;
    asks = refl;
    losses = refl;
    wrecks = refl;
    lost = λ f h. absurd (no_one f h);
    lost_once = once_none;
    lost_apart = λ f t h. no_one f;
    awaits_once = once_one 2;
    awaits = λ f t h. awaited_at h.0 f t h.1;
    all_awaits = owed_awaits;
  };
  hand = λ f e. absurd (none-some f e);
  in_hand = λ f e. absurd (none-some 1 e);
  base = refl;
  origin = refl;
}

pub took_tells : Tells (table_of (two_landings ++ an_oversized_landing)) took_it
unfolding after_from asks_from wrecks_from
took_tells = record {
  knows = record {
    entered = omega arith;
    calls = refl;
    live = refl;
    asks = refl;
    losses = refl;
    wrecks = refl;
    lost = λ f h. absurd (no_one f h);
    lost_once = once_none;
    lost_apart = λ f t h. absurd (no_one (f, t) h);
    awaits_once = once_none;
    awaits = λ f t h. absurd (no_one (f, t) h);
    all_awaits = λ f w. absurd (second_awaits f w);
  };
  hand = λ f e. absurd (none-some f e);
  in_hand = λ f e. absurd (none-some 1 e);
  base = refl;
  origin = refl;
}

-- a pass that forgot what it awaits isn't told
pub forgot_untold : ¬ Tells (table_of an_owed_value) forgot_it
unfolding after_from
forgot_untold t = let a = t.knows.all_awaits 2 (inr (flight_of 2 (landed (Some 11)) (1 ∷ []), refl, refl, refl)) in no_one (2, a.0) a.1

pub taking_follows : Follows (table_of an_owed_value) (table_of (two_landings ++ an_oversized_landing)) awaits_one took_it
taking_follows =
    follows_by (table_of an_owed_value) (table_of (two_landings ++ an_oversized_landing)) awaits_one took_it (Taken 1 2 ∷ [])
    record { journal = refl; dialed = refl; keep = refl; start = refl; origin = refl }
    whole_sound
    record {
      names_none = λ o ne. either_false (names o (Taken 1 2)) false (names_other o 1 (Taken 1 2) refl ne) refl;
      holds = λ o ne f. (λ e. e, λ e. e);
      doors = record { opened = refl; cancelled = refl; refreshed = refl };
    }
    owed_tells took_tells refl refl refl
