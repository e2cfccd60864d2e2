-- What the pass of a query says that has just begun or joined a flight.
use Rattle.std.proofs.Common.{◌≡◌, ◌≢◌, ◌⊎◌, ℕ, zero, suc, ◌+◌, ◌<◌, ◌==◌, ◌||◌, Bool, true, false, true≢false, List, [], ◌∷◌, ◌++◌, length, map, Option, Some, slice_get, refl, sym, ap, ◌∙◌, subst, inl, inr, ⊎_elim, arith, append-nil, add-zero, eq-eqb}
use Rattle.std.specs.Option.{option_map}
use Rattle.std.proofs.lemmas.Bool.{cases_eq}
use Rattle.std.proofs.lemmas.Option.{slice_get_within}
use Rattle.link_io.specs.Target.{IsPlain}
use Rattle.link_io.specs.declared.target.Key.{Key}
use Rattle.link_io.specs.declared.target.Target.{Target}
use Rattle.flight_journal.specs.declared.entry.Entry.{Entry}
use Rattle.flight_journal.specs.declared.entry.Entry.TheVariants.{Began, Joined}
use Rattle.flight_journal.specs.State.{Phase, flying, gone, State, Flight, nothing, IsFlight, is_one_of, is_landed, WaitsIn, IsOwed, Flies, joined, is_open}
use Rattle.flight_journal.specs.Journal.{after, step, Allowed}
use Rattle.flight_journal.specs.Count.{Among, IsOnce, one_if, calls_of, losses_of, key_in, only_if, asked_in, asks_from, wrecks_from}
use Rattle.flight_journal.proofs.PushLemmas.{after_push}
use Rattle.flight_journal.proofs.ListLemmas.{none_in_nothing, get_changed, get_unchanged, get_last, get_before_last}
use Rattle.flight_journal.proofs.CarryLemmas.{one_flight}
use Rattle.flight_journal.proofs.CountLemmas.{calls_push, losses_push, asks_push, wrecks_push}
use Rattle.flight_table.specs.Facts.{Facts, awaiting_pass}
use Rattle.flight_table.specs.Knows.{WasLost, IsAwait, Knows}
use Rattle.flight_table.proofs.KnowLemmas.{behind, lost_more, await_on}

-- ---- one element more
pub last_or_before : {X : Type 0} (x y : X) (xs : List X) → Among y (xs ++ x ∷ []) → Among y xs ⊎ (x ≡ y)
last_or_before {X} x y xs among =
    ⊎_elim
    (λ (e : among.0 ≡ length xs). inr (one (sym (get_last xs x) ∙ ap (slice_get (xs ++ x ∷ [])) (sym e) ∙ among.1)))
    (λ (ne : among.0 ≢ length xs). inl (among.0, sym (get_before_last xs x among.0 ne) ∙ among.1))
    (cases_eq among.0 (length xs))
  where
    one : Some x ≡ Some y → x ≡ y
    one e = cc

-- an element that stands in no place before stands once
pub once_more : {X : Type 0} (x : X) (xs : List X) → IsOnce xs → ¬ Among x xs → IsOnce (xs ++ x ∷ [])
once_more {X} x xs once apart here there y h k =
    ⊎_elim
    (λ (e : here ≡ length xs). ⊎_elim
    (λ (d : there ≡ length xs). e ∙ sym d)
    (λ (ne : there ≢ length xs). absurd (apart (there, before there y ne k ∙ ap Some (sym (last here y e h)))))
    (cases_eq there (length xs)))
    (λ (ne : here ≢ length xs). ⊎_elim
    (λ (d : there ≡ length xs). absurd (apart (here, before here y ne h ∙ ap Some (sym (last there y d k)))))
    (λ (nd : there ≢ length xs). once here there y (before here y ne h) (before there y nd k))
    (cases_eq there (length xs)))
    (cases_eq here (length xs))
  where
    before : (n : ℕ) (z : X) → n ≢ length xs → slice_get (xs ++ x ∷ []) n ≡ Some z → slice_get xs n ≡ Some z
    before n z ne g = sym (get_before_last xs x n ne) ∙ g

    last : (n : ℕ) (z : X) → n ≡ length xs → slice_get (xs ++ x ∷ []) n ≡ Some z → x ≡ z
    last n z e g = one (sym (get_last xs x) ∙ ap (slice_get (xs ++ x ∷ [])) (sym e) ∙ g)
      where
        one : Some x ≡ Some z → x ≡ z
        one i = cc

pub numbers_more : (f : ℕ) (t : Target) (pairs : List (ℕ × Target)) → map (λ a. a.0) (pairs ++ (f, t) ∷ []) ≡ map (λ a. a.0) pairs ++ f ∷ []
numbers_more f t [] = refl
numbers_more f t (a ∷ pairs) = ap (λ l. a.0 ∷ l) (numbers_more f t pairs)

number_stands : (f : ℕ) (pairs : List (ℕ × Target)) → Among f (map (λ a. a.0) pairs) → (t : Target) × Among (f, t) pairs
number_stands f [] among = absurd (none_in_nothing among.0 f among.1)
number_stands f (a ∷ pairs) among = split (λ n h. number_stands f pairs (n, h)) among.0 among.1
  where
    split : ((n : ℕ) → slice_get (map (λ b. b.0) pairs) n ≡ Some f → (t : Target) × Among (f, t) pairs) → (n : ℕ) → slice_get (a.0 ∷ map (λ b. b.0) pairs) n ≡ Some f → (t : Target) × Among (f, t) (a ∷ pairs)
    split more zero h = let same : a.0 ≡ f = cc in (a.1, (zero, ap (λ n. Some (n, a.1)) same))
    split more (suc n) h = let w = more n h in (w.0, (suc w.1.0, w.1.1))

pub among_before : {X : Type 0} (x y : X) (xs : List X) → Among y xs → Among y (xs ++ x ∷ [])
among_before x y xs among = (among.0, get_before_last xs x among.0 (below among.0 (length xs) (slice_get_within xs among.0 y among.1)) ∙ among.1)
  where
    below : (m n : ℕ) → m < n → m ≢ n
    below m n less same = let bad : ⊥ = omega arith in bad

-- ---- a flight more is awaited
-- what the entry does: one flight flies for the target and is awaited by the query, and all others are as they were
record Awaits (js : List Entry) (e : Entry) (q f : ℕ) (u : Target) : Type 0 where
  flight : Flight
  there : IsFlight (step (after js) e) f flight
  flies : flight.phase ≡ flying
  target : flight.target ≡ u
  one : is_one_of q flight.queries ≡ true
  others : (g : ℕ) → g ≢ f → slice_get (step (after js) e).flights g ≡ slice_get (after js).flights g
  entered : ((t : Target) × Among (Began q f t) (js ++ e ∷ [])) ⊎ Among (Joined q f) (js ++ e ∷ [])
  calls : calls_of q (js ++ e ∷ []) ≡ calls_of q js + 1
  live : is_open (step (after js) e) q ≡ is_open (after js) q
  asks : asks_from q nothing (js ++ e ∷ []) ≡ asks_from q nothing js ++ u.key ∷ []
  losses : losses_of q (js ++ e ∷ []) ≡ losses_of q js
  wrecks : wrecks_from q nothing (js ++ e ∷ []) ≡ wrecks_from q nothing js

knows_awaiting : (budget : ℕ) (js : List Entry) (e : Entry) (f : ℕ) (u : Target) (p : Facts) → Allowed budget (after js) e → IsPlain u → Awaits js e p.query f u
    → ((t : Target) → ¬ Among (f, t) p.awaits) → ¬ Among f p.lost → Knows js p → Knows (js ++ e ∷ []) (awaiting_pass f u p)
knows_awaiting budget js e f u p may plain a apart kept k =
    let known = k.calls in
    let calls = a.calls in
    record {
      entered = omega arith;
      calls = omega arith;
      live = k.live ∙ sym (ap (λ (s : State). is_open s p.query) (after_push js e) ∙ a.live);
      asks = ap (λ (l : List Key). l ++ u.key ∷ []) k.asks ∙ sym a.asks;
      losses = k.losses ∙ sym a.losses;
      wrecks = k.wrecks ∙ sym a.wrecks;
      lost = λ g among. lost_more budget js e p.query g may (k.lost g among);
      lost_once = k.lost_once;
      lost_apart = λ g t among in_lost. ⊎_elim
          (λ (before : Among (g, t) p.awaits). k.lost_apart g t before in_lost)
          (λ (same : (f, u) ≡ (g, t)). kept (subst (λ n. Among n p.lost) (sym (ap (λ (z : ℕ × Target). z.0) same)) in_lost))
          (last_or_before (f, u) (g, t) p.awaits among);
      awaits_once = subst IsOnce (sym (numbers_more f u p.awaits)) (once_more f (map (λ b. b.0) p.awaits) k.awaits_once (λ among. let w = number_stands f p.awaits among in apart w.0 w.1));
      awaits = λ g t among. ⊎_elim
          (λ (before : Among (g, t) p.awaits). still g t before)
          (λ (same : (f, u) ≡ (g, t)). subst (λ (z : ℕ × Target). IsAwait (js ++ e ∷ []) p.query z.0 z.1) same new)
          (last_or_before (f, u) (g, t) p.awaits among);
      all_awaits = λ g either. ⊎_elim
          (λ (i : g ≡ f). (u, (length p.awaits, get_last p.awaits (f, u) ∙ ap (λ n. Some (n, u)) (sym i))))
          (λ (ne : g ≢ f). let w = k.all_awaits g (before g ne (subst (λ (s : State). WaitsIn s p.query g ⊎ IsOwed s p.query g) (after_push js e) either)) in (w.0, among_before (f, u) (g, w.0) p.awaits w.1))
          (cases_eq g f);
    }
  where
    new : IsAwait (js ++ e ∷ []) p.query f u
    new = record { flight = a.flight; there = behind js e f a.flight a.there; target = a.target; plain = plain; entered = a.entered; stands = inl (a.flight, behind js e f a.flight a.there, a.flies, a.one) }

    still : (g : ℕ) (t : Target) → Among (g, t) p.awaits → IsAwait (js ++ e ∷ []) p.query g t
    still g t among =
        let old = k.awaits g t among in
        let ne : g ≢ f = λ i. apart t (subst (λ n. Among (n, t) p.awaits) i among) in
        await_on budget js e p.query g t may old old.flight (a.others g ne ∙ old.there) (record { target = refl; awaited = refl; phase = inl refl })

    before : (g : ℕ) → g ≢ f → WaitsIn (step (after js) e) p.query g ⊎ IsOwed (step (after js) e) p.query g → WaitsIn (after js) p.query g ⊎ IsOwed (after js) p.query g
    before g ne either =
        ⊎_elim
        (λ (w : WaitsIn (step (after js) e) p.query g). inl (w.0, sym (a.others g ne) ∙ w.1, w.2, w.3))
        (λ (o : IsOwed (step (after js) e) p.query g). inr (o.0, sym (a.others g ne) ∙ o.1, o.2, o.3))
        either

-- ---- joining
one_at_end : (q : ℕ) (xs : List ℕ) → is_one_of q (xs ++ q ∷ []) ≡ true
one_at_end q [] = ap (λ b. b || false) (eq-eqb q q refl)
one_at_end q (x ∷ xs) = split (x == q) (one_at_end q xs)
  where
    split : (b : Bool) → is_one_of q (xs ++ q ∷ []) ≡ true → b || is_one_of q (xs ++ q ∷ []) ≡ true
    split true h = refl
    split false h = h

flying≢gone : flying ≢ gone
flying≢gone e = cc

landed_flies_not : (x : Phase) → is_landed x ≡ true → x ≢ flying
landed_flies_not x l e = true≢false (sym l ∙ ap is_landed e)

pub knows_joined : (budget f : ℕ) (js : List Entry) (p : Facts) (u : Target) → Allowed budget (after js) (Joined p.query f) → Flies (after js) f u → IsPlain u → Knows js p → Knows (js ++ Joined p.query f ∷ []) (awaiting_pass f u p)
knows_joined budget f js p u may flies plain k =
    knows_awaiting budget js (Joined p.query f) f u p may plain facts
    (λ t among. stranger (k.awaits f t among).stands)
    (λ among. not_lost (k.lost f among))
    k
  where
    not_owed : IsOwed (after js) p.query f → ⊥
    not_owed o = landed_flies_not o.0.phase o.2 (ap (λ (x : Flight). x.phase) (one_flight (after js) f o.0 flies.0 o.1 flies.1) ∙ flies.2)

    not_lost : WasLost js p.query f → ⊥
    not_lost l = flying≢gone (sym flies.2 ∙ ap (λ (x : Flight). x.phase) (one_flight (after js) f flies.0 l.flight flies.1 l.there) ∙ l.gone_now)

    stranger : WaitsIn (after js) p.query f ⊎ (IsOwed (after js) p.query f ⊎ WasLost js p.query f) → ⊥
    stranger w = ⊎_elim may.3 (λ (rest : IsOwed (after js) p.query f ⊎ WasLost js p.query f). ⊎_elim not_owed not_lost rest) w

    own : (p.query == p.query) ≡ true
    own = eq-eqb p.query p.query refl

    key : asked_in p.query (after js) (Joined p.query f) ≡ u.key ∷ []
    key = ap (λ (o : Option Flight). only_if (p.query == p.query) (key_in o)) flies.1 ∙ ap (λ b. only_if b (flies.0.target.key ∷ [])) own ∙ ap (λ (t : Target). t.key ∷ []) flies.3

    facts : Awaits js (Joined p.query f) p.query f u
    facts = record {
      flight = joined p.query flies.0;
      there = get_changed f (joined p.query) (after js).flights ∙ ap (option_map (joined p.query)) flies.1;
      flies = flies.2;
      target = flies.3;
      one = one_at_end p.query flies.0.queries;
      others = λ g ne. get_unchanged f g (joined p.query) (after js).flights ne;
      entered = inr (length js, get_last js (Joined p.query f));
      calls = calls_push p.query js (Joined p.query f) ∙ ap (λ n. calls_of p.query js + n) (ap one_if own);
      live = refl;
      asks = asks_push p.query nothing js (Joined p.query f) ∙ ap (λ (l : List Key). asks_from p.query nothing js ++ l) key;
      losses = losses_push p.query js (Joined p.query f) ∙ add-zero (losses_of p.query js);
      wrecks = wrecks_push p.query nothing js (Joined p.query f) ∙ append-nil _;
    }

pub knows_begun : (budget f : ℕ) (js : List Entry) (p : Facts) (u : Target) → Allowed budget (after js) (Began p.query f u) → IsPlain u → Knows js p → Knows (js ++ Began p.query f u ∷ []) (awaiting_pass f u p)
knows_begun budget f js p u may plain k =
    knows_awaiting budget js (Began p.query f u) f u p may plain facts
    (λ t among. let a = k.awaits f t among in fresh a.flight a.there)
    (λ among. let l = k.lost f among in fresh l.flight l.there)
    k
  where
    fresh : (x : Flight) → IsFlight (after js) f x → ⊥
    fresh x there = past f (length (after js).flights) may.2 (slice_get_within (after js).flights f x there)
      where
        past : (m n : ℕ) → m ≡ n → m < n → ⊥
        past m n same less = let bad : ⊥ = omega arith in bad

    own : (p.query == p.query) ≡ true
    own = eq-eqb p.query p.query refl

    facts : Awaits js (Began p.query f u) p.query f u
    facts = record {
      flight = record { target = u; phase = flying; queries = p.query ∷ [] };
      there = ap (slice_get ((after js).flights ++ record { target = u; phase = flying; queries = p.query ∷ [] } ∷ [])) may.2 ∙ get_last (after js).flights _;
      flies = refl;
      target = refl;
      one = ap (λ b. b || false) own;
      others = λ g ne. get_before_last (after js).flights _ g (λ i. ne (i ∙ sym may.2));
      entered = inl (u, (length js, get_last js (Began p.query f u)));
      calls = calls_push p.query js (Began p.query f u) ∙ ap (λ n. calls_of p.query js + n) (ap one_if own);
      live = refl;
      asks = asks_push p.query nothing js (Began p.query f u) ∙ ap (λ (l : List Key). asks_from p.query nothing js ++ l) (ap (λ b. only_if b (u.key ∷ [])) own);
      losses = losses_push p.query js (Began p.query f u) ∙ add-zero (losses_of p.query js);
      wrecks = wrecks_push p.query nothing js (Began p.query f u) ∙ append-nil _;
    }
