-- What an entry that names another query leaves of one query.
use Rattle.std.proofs.Common.{◌≡◌, ◌≢◌, ◌⊎◌, ℕ, ◌==◌, ◌||◌, Bool, true, false, true≢false, not, cond, List, [], ◌∷◌, ◌++◌, length, Some, None, slice_get, refl, sym, ap, ◌∙◌, inl, inr, ⊎_elim, arith, eq-eqb}
use Rattle.std.specs.Option.{option_map}
use Rattle.std.proofs.lemmas.Bool.{cases_eq}
use Rattle.std.proofs.lemmas.Option.{slice_get_within}
use Rattle.flight_journal.specs.declared.entry.Entry.{Entry}
use Rattle.flight_journal.specs.declared.entry.Entry.TheVariants.{Opened, Began, Joined, Hit, Taken, Landed, Lost, Cancelled, Closed, Evicted, Refreshed, Abandoned}
use Rattle.flight_journal.specs.State.{flying, gone, Flight, State, IsFlight, is_one_of, all_but, is_open, WaitsIn, IsOwed, joined, parted, came_to, ended, change}
use Rattle.flight_journal.specs.Journal.{step, Allowed}
use Rattle.flight_journal.specs.Count.{names}
use Rattle.flight_journal.specs.Others.{FliesOn, IsLostBy}
use Rattle.flight_journal.proofs.ListLemmas.{get_changed, get_unchanged, get_last, get_before_last, get_map, get_unset}

-- two flights of one number are one
pub one_flight : (s : State) (f : ℕ) (x y : Flight) → IsFlight s f x → IsFlight s f y → x ≡ y
one_flight s f x y p q = let same : Some x ≡ Some y = sym p ∙ q in cc

pub apart_from : (p q : ℕ) → (p == q) ≡ false → p ≢ q
apart_from p q h e = true≢false (sym (eq-eqb p q e) ∙ h)

-- ---- who is one of some queries
pub one_more : (q p : ℕ) (xs : List ℕ) → (p == q) ≡ false → is_one_of q (xs ++ p ∷ []) ≡ is_one_of q xs
one_more q p [] h = ap (λ b. b || false) h
one_more q p (x ∷ xs) h = ap (λ b. (x == q) || b) (one_more q p xs h)

pub one_less : (q p : ℕ) (xs : List ℕ) → (p == q) ≡ false → is_one_of q (all_but p xs) ≡ is_one_of q xs
one_less q p [] h = refl
one_less q p (x ∷ xs) h = split (x == p) refl (one_less q p xs h)
  where
    split : (b : Bool) → (x == p) ≡ b → is_one_of q (all_but p xs) ≡ is_one_of q xs → is_one_of q (cond (not b) (x ∷ all_but p xs) (all_but p xs)) ≡ (x == q) || is_one_of q xs
    split true same more = let e : (x == q) ≡ false = grind (arith, same, h) in more ∙ ap (λ (b : Bool). b || is_one_of q xs) (sym e)
    split false other more = ap (λ b. (x == q) || b) more

-- who is one of the others is one of all
pub one_of_all : (q p : ℕ) (xs : List ℕ) → is_one_of q (all_but p xs) ≡ true → is_one_of q xs ≡ true
one_of_all q p [] h = h
one_of_all q p (x ∷ xs) h = split (x == p) (x == q) refl (one_of_all q p xs) h
  where
    split : (b c : Bool) → (x == q) ≡ c → (is_one_of q (all_but p xs) ≡ true → is_one_of q xs ≡ true) → is_one_of q (cond (not b) (x ∷ all_but p xs) (all_but p xs)) ≡ true → c || is_one_of q xs ≡ true
    split b true e more k = refl
    split true false e more k = more k
    split false false e more k = more (ap (λ (d : Bool). d || is_one_of q (all_but p xs)) (sym e) ∙ k)

-- ---- what becomes of a flight
same_flight : (q : ℕ) (x : Flight) → FliesOn q x x
same_flight q x = record { target = refl; awaited = refl; phase = inl refl }

-- one flight changes, and goes on for the query
carried_at : (q g f : ℕ) (h : Flight → Flight) (xs : List Flight) (x : Flight) → slice_get xs f ≡ Some x → (f ≡ g → FliesOn q x (h x)) → (y : Flight) × (slice_get (change g h xs) f ≡ Some y) × FliesOn q x y
carried_at q g f h xs x known on =
    ⊎_elim
    (λ (e : f ≡ g). (h x, ap (λ n. slice_get (change n h xs) f) (sym e) ∙ get_changed f h xs ∙ ap (option_map h) known, on e))
    (λ (ne : f ≢ g). (x, get_unchanged g f h xs ne ∙ known, same_flight q x))
    (cases_eq f g)

on_parted : (q p : ℕ) (x : Flight) → (p == q) ≡ false → FliesOn q x (parted p x)
on_parted q p x h = record { target = refl; awaited = one_less q p x.queries h; phase = inl refl }

-- where an entry that may be written does not name the query, each flight goes on for it, or another query lost it
pub carried : (budget q f : ℕ) (s : State) (e : Entry) (x : Flight) → Allowed budget s e → names q e ≡ false → IsFlight s f x
    → ((y : Flight) × IsFlight (step s e) f y × FliesOn q x y) ⊎ IsLostBy q f e
carried budget q f s (Opened p) x may h known = inl (x, known, same_flight q x)
carried budget q f s (Began p g t) x may h known = inl (x, get_before_last s.flights _ f (λ e. let b = slice_get_within s.flights f x known in omega arith) ∙ known, same_flight q x)
carried budget q f s (Joined p g) x may h known = inl (carried_at q g f (joined p) s.flights x known (λ _. record { target = refl; awaited = one_more q p x.queries h; phase = inl refl }))
carried budget q f s (Hit p g) x may h known = inl (x, known, same_flight q x)
carried budget q f s (Taken p g) x may h known = inl (carried_at q g f (parted p) s.flights x known (λ _. on_parted q p x h))
carried budget q f s (Landed p g size) x may h known = inl (carried_at q g f (came_to size p) s.flights x known (λ e. record { target = refl; awaited = one_less q p x.queries h; phase = inr (inl (flew e, refl)) }))
  where
    flew : f ≡ g → x.phase ≡ flying
    flew e = let w = may.2 in ap (λ (y : Flight). y.phase) (one_flight s f x w.0 known (ap (λ n. slice_get s.flights n) e ∙ w.1)) ∙ w.2
carried budget q f s (Lost p g) x may h known =
    ⊎_elim
    (λ (e : f ≡ g). inr (p, ap (λ n. Lost p n) (sym e), apart_from p q h))
    (λ (ne : f ≢ g). inl (x, get_unchanged g f ended s.flights ne ∙ known, same_flight q x))
    (cases_eq f g)
carried budget q f s (Cancelled p) x may h known = inl (parted p x, get_map (parted p) s.flights f ∙ ap (option_map (parted p)) known, on_parted q p x h)
carried budget q f s (Closed p) x may h known = inl (parted p x, get_map (parted p) s.flights f ∙ ap (option_map (parted p)) known, on_parted q p x h)
carried budget q f s (Evicted g) x may h known = inl (x, known, same_flight q x)
carried budget q f s (Refreshed g) x may h known = inl (x, known, same_flight q x)
carried budget q f s (Abandoned g) x may h known =
    ⊎_elim
    (λ (e : f ≡ g). inl (ended x, ap (λ n. slice_get (change n ended s.flights) f) (sym e) ∙ get_changed f ended s.flights ∙ ap (option_map ended) known, record { target = refl; awaited = ap (is_one_of q) (sym (alone e)); phase = inr (inr (alone e)) }))
    (λ (ne : f ≢ g). inl (x, get_unchanged g f ended s.flights ne ∙ known, same_flight q x))
    (cases_eq f g)
  where
    alone : f ≡ g → x.queries ≡ []
    alone e = let w = may.1.0 in ap (λ (y : Flight). y.queries) (one_flight s f x w.0 known (ap (λ n. slice_get s.flights n) e ∙ w.1)) ∙ w.3

-- ---- a flight that is over
-- one flight changes; where it is the one that is over, it keeps its phase
over_at : (g f : ℕ) (h : Flight → Flight) (xs : List Flight) (x : Flight) → slice_get xs f ≡ Some x → (f ≡ g → (h x).phase ≡ x.phase) → (h x).target ≡ x.target
    → (y : Flight) × (slice_get (change g h xs) f ≡ Some y) × (y.phase ≡ x.phase) × (y.target ≡ x.target)
over_at g f h xs x known stays same =
    ⊎_elim
    (λ (e : f ≡ g). (h x, ap (λ n. slice_get (change n h xs) f) (sym e) ∙ get_changed f h xs ∙ ap (option_map h) known, stays e, same))
    (λ (ne : f ≢ g). (x, get_unchanged g f h xs ne ∙ known, refl, refl))
    (cases_eq f g)

-- a flight that flies, by its number
flies_here : (s : State) (f g : ℕ) (x y : Flight) → IsFlight s f x → IsFlight s g y → y.phase ≡ flying → f ≡ g → x.phase ≡ flying
flies_here s f g x y known there flies e = ap (λ (z : Flight). z.phase) (one_flight s f x y known (ap (λ n. slice_get s.flights n) e ∙ there)) ∙ flies

-- a flight that does not fly keeps its phase and its target
pub over_stays : (budget f : ℕ) (s : State) (e : Entry) (x : Flight) → Allowed budget s e → IsFlight s f x → x.phase ≢ flying
    → (y : Flight) × IsFlight (step s e) f y × (y.phase ≡ x.phase) × (y.target ≡ x.target)
over_stays budget f s (Opened p) x may known over = (x, known, refl, refl)
over_stays budget f s (Began p g t) x may known over = (x, get_before_last s.flights _ f (λ e. let b = slice_get_within s.flights f x known in omega arith) ∙ known, refl, refl)
over_stays budget f s (Joined p g) x may known over = over_at g f (joined p) s.flights x known (λ _. refl) refl
over_stays budget f s (Hit p g) x may known over = (x, known, refl, refl)
over_stays budget f s (Taken p g) x may known over = over_at g f (parted p) s.flights x known (λ _. refl) refl
over_stays budget f s (Landed p g size) x may known over = over_at g f (came_to size p) s.flights x known (λ e. absurd (over (flies_here s f g x may.2.0 known may.2.1 may.2.2 e))) refl
over_stays budget f s (Lost p g) x may known over = over_at g f ended s.flights x known (λ e. absurd (over (flies_here s f g x may.2.0 known may.2.1 may.2.2 e))) refl
over_stays budget f s (Cancelled p) x may known over = (parted p x, get_map (parted p) s.flights f ∙ ap (option_map (parted p)) known, refl, refl)
over_stays budget f s (Closed p) x may known over = (parted p x, get_map (parted p) s.flights f ∙ ap (option_map (parted p)) known, refl, refl)
over_stays budget f s (Evicted g) x may known over = (x, known, refl, refl)
over_stays budget f s (Refreshed g) x may known over = (x, known, refl, refl)
over_stays budget f s (Abandoned g) x may known over = over_at g f ended s.flights x known (λ e. absurd (over (flies_here s f g x may.1.0.0 known may.1.0.1 may.1.0.2 e))) refl

-- a flight that is gone stays gone, with its target
pub gone_stays : (budget f : ℕ) (s : State) (e : Entry) (x : Flight) → Allowed budget s e → IsFlight s f x → x.phase ≡ gone
    → (y : Flight) × IsFlight (step s e) f y × (y.phase ≡ gone) × (y.target ≡ x.target)
gone_stays budget f s e x may known is =
    let never : x.phase ≢ flying = λ flies. (let bad : gone ≡ flying = sym is ∙ flies in cc) in
    let y = over_stays budget f s e x may known never in
    (y.0, y.1, y.2 ∙ is, y.3)

-- a flight that a query loses is gone behind it, with its target
pub lost_goes : (budget q f : ℕ) (s : State) (x : Flight) → Allowed budget s (Lost q f) → IsFlight s f x
    → (y : Flight) × IsFlight (step s (Lost q f)) f y × (y.phase ≡ gone) × (y.target ≡ x.target)
lost_goes budget q f s x may known = (ended x, get_changed f ended s.flights ∙ ap (option_map ended) known, refl, refl)

-- ---- a flight that is not there yet
-- a flight behind an entry that was not there before is one that a query began
fresh_at : (g f : ℕ) (h : Flight → Flight) (xs : List Flight) → slice_get xs f ≡ None → slice_get (change g h xs) f ≡ None
fresh_at g f h xs none =
    ⊎_elim
    (λ (e : f ≡ g). ap (λ n. slice_get (change n h xs) f) (sym e) ∙ get_changed f h xs ∙ ap (option_map h) none)
    (λ (ne : f ≢ g). get_unchanged g f h xs ne ∙ none)
    (cases_eq f g)

no_flight : (f : ℕ) (xs : List Flight) (x : Flight) → slice_get xs f ≡ None → slice_get xs f ≡ Some x → ⊥
no_flight f xs x none e = cc

pub fresh_for_others : (budget q f : ℕ) (s : State) (e : Entry) (x : Flight) → names q e ≡ false → slice_get s.flights f ≡ None → IsFlight (step s e) f x → is_one_of q x.queries ≡ false
fresh_for_others budget q f s (Opened p) x h none known = absurd (no_flight f s.flights x none known)
fresh_for_others budget q f s (Began p g t) x h none known =
    ⊎_elim
    (λ (e : f ≡ length s.flights). let new : slice_get (s.flights ++ record { target = t; phase = flying; queries = p ∷ [] } ∷ []) f ≡ Some (record { target = t; phase = flying; queries = p ∷ [] }) = ap (λ n. slice_get (s.flights ++ record { target = t; phase = flying; queries = p ∷ [] } ∷ []) n) e ∙ get_last s.flights _ in
    let same : Some (record { target = t; phase = flying; queries = p ∷ [] }) ≡ Some x = sym new ∙ known in
    let is : p ∷ [] ≡ x.queries = cc in
    ap (is_one_of q) (sym is) ∙ ap (λ b. b || false) h)
    (λ (ne : f ≢ length s.flights). absurd (no_flight f s.flights x none (sym (get_before_last s.flights _ f ne) ∙ known)))
    (cases_eq f (length s.flights))
fresh_for_others budget q f s (Joined p g) x h none known = absurd (no_flight f _ x (fresh_at g f (joined p) s.flights none) known)
fresh_for_others budget q f s (Hit p g) x h none known = absurd (no_flight f s.flights x none known)
fresh_for_others budget q f s (Taken p g) x h none known = absurd (no_flight f _ x (fresh_at g f (parted p) s.flights none) known)
fresh_for_others budget q f s (Landed p g size) x h none known = absurd (no_flight f _ x (fresh_at g f (came_to size p) s.flights none) known)
fresh_for_others budget q f s (Lost p g) x h none known = absurd (no_flight f _ x (fresh_at g f ended s.flights none) known)
fresh_for_others budget q f s (Cancelled p) x h none known = absurd (no_flight f _ x (get_map (parted p) s.flights f ∙ ap (option_map (parted p)) none) known)
fresh_for_others budget q f s (Closed p) x h none known = absurd (no_flight f _ x (get_map (parted p) s.flights f ∙ ap (option_map (parted p)) none) known)
fresh_for_others budget q f s (Evicted g) x h none known = absurd (no_flight f s.flights x none known)
fresh_for_others budget q f s (Refreshed g) x h none known = absurd (no_flight f s.flights x none known)
fresh_for_others budget q f s (Abandoned g) x h none known = absurd (no_flight f _ x (fresh_at g f ended s.flights none) known)

-- no such flight is awaited by the query, flying or landed
pub none_new : (budget q f : ℕ) (s : State) (e : Entry) → names q e ≡ false → slice_get s.flights f ≡ None → ¬ WaitsIn (step s e) q f × ¬ IsOwed (step s e) q f
none_new budget q f s e h none =
    (λ w. true≢false (sym w.3 ∙ fresh_for_others budget q f s e w.0 h none w.1), λ w. true≢false (sym w.3 ∙ fresh_for_others budget q f s e w.0 h none w.1))

-- ---- whether a query is open
pub open_stays : (budget q : ℕ) (s : State) (e : Entry) → Allowed budget s e → names q e ≡ false → is_open (step s e) q ≡ is_open s q
open_stays budget q s (Opened p) may h = let ne : q ≢ length s.live = λ e. apart_from p q h (may.1 ∙ sym e) in rw (get_before_last s.live true q ne) refl
open_stays budget q s (Began p f t) may h = refl
open_stays budget q s (Joined p f) may h = refl
open_stays budget q s (Hit p f) may h = refl
open_stays budget q s (Taken p f) may h = refl
open_stays budget q s (Landed p f size) may h = refl
open_stays budget q s (Lost p f) may h = refl
open_stays budget q s (Cancelled p) may h = let ne : q ≢ p = λ e. apart_from p q h (sym e) in rw (get_unset p q false s.live ne) refl
open_stays budget q s (Closed p) may h = let ne : q ≢ p = λ e. apart_from p q h (sym e) in rw (get_unset p q false s.live ne) refl
open_stays budget q s (Evicted f) may h = refl
open_stays budget q s (Refreshed f) may h = refl
open_stays budget q s (Abandoned f) may h = refl
