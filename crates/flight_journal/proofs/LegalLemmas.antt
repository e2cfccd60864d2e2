-- What is so of each state behind a legal journal.
use Rattle.std.proofs.Common.{◌≡◌, ◌≢◌, ◌⊎◌, ℕ, ◌<◌, ◌==◌, ◌||◌, Bool, true, false, true≢false, not, cond, if◌then◌else◌, List, [], ◌∷◌, ◌++◌, map, length, Option, Some, None, slice_get, refl, sym, ap, ◌∙◌, subst, inl, inr, ⊎_elim, arith}
use Rattle.std.specs.Option.{option_map}
use Rattle.std.proofs.lemmas.Bool.{cases_eq}
use Rattle.std.proofs.lemmas.Option.{slice_get_within}
use Rattle.shard_cache.specs.Recency.{is_listed, without, only}
use Rattle.shard_cache.proofs.OrderLemmas.{listed_behind}
use Rattle.link_io.specs.declared.target.Target.{Target}
use Rattle.flight_journal.specs.declared.entry.Entry.{Entry}
use Rattle.flight_journal.specs.declared.entry.Entry.TheVariants.{Opened, Began, Joined, Hit, Taken, Landed, Lost, Cancelled, Closed, Evicted, Refreshed, Abandoned}
use Rattle.flight_journal.specs.State.{flying, landed, gone, Flight, State, nothing, IsFlight, is_one_of, all_but, IsOpen, WaitsIn, IsOwed, Flies, IsKept, HoldsKey, joined, parted, came_to, ended, change}
use Rattle.flight_journal.specs.Journal.{step, after_from, after, Allowed, LegalFrom, Legal}
use Rattle.flight_journal.proofs.ListLemmas.{get_changed, get_unchanged, get_last, get_before_last, get_map, get_unset}
use Rattle.flight_journal.proofs.CarryLemmas.{one_flight, one_of_all, over_stays}

-- ---- where a flight behind an entry comes from
-- a flight behind an entry was there before: with its target, awaited by no other query than the one that joined, and
-- flying if it flies now
pub record Was (joins : ℕ → Type 0) (x y : Flight) : Type 0 where
  pub target : y.target ≡ x.target
  pub flew : y.phase ≡ flying → x.phase ≡ flying
  pub awaited : (q : ℕ) → is_one_of q y.queries ≡ true → (is_one_of q x.queries ≡ true) ⊎ joins q

stays : (J : ℕ → Type 0) (x : Flight) → Was J x x
stays J x = record { target = refl; flew = λ e. e; awaited = λ q h. inl h }

on_parted : (J : ℕ → Type 0) (p : ℕ) (x : Flight) → Was J x (parted p x)
on_parted J p x = record { target = refl; flew = λ e. e; awaited = λ q h. inl (one_of_all q p x.queries h) }

on_landed : (J : ℕ → Type 0) (size : Option ℕ) (p : ℕ) (x : Flight) → Was J x (came_to size p x)
on_landed J size p x = record { target = refl; flew = λ e. absurd (never e); awaited = λ q h. inl (one_of_all q p x.queries h) }
  where
    never : landed size ≡ flying → ⊥
    never e = cc

on_ended : (J : ℕ → Type 0) (x : Flight) → Was J x (ended x)
on_ended J x = record { target = refl; flew = λ e. absurd (never e); awaited = λ q h. absurd (true≢false (sym h)) }
  where
    never : gone ≡ flying → ⊥
    never e = cc

one_of_more : (q p : ℕ) (xs : List ℕ) → is_one_of q (xs ++ p ∷ []) ≡ true → (is_one_of q xs ≡ true) ⊎ (p ≡ q)
one_of_more q p [] h = split (p == q) refl h
  where
    split : (b : Bool) → (p == q) ≡ b → b || false ≡ true → (false ≡ true) ⊎ (p ≡ q)
    split true e k = inr (grind (arith, e))
    split false e k = absurd (true≢false (sym k))
one_of_more q p (x ∷ xs) h = split (x == q) (one_of_more q p xs) h
  where
    split : (b : Bool) → (is_one_of q (xs ++ p ∷ []) ≡ true → (is_one_of q xs ≡ true) ⊎ (p ≡ q)) → b || is_one_of q (xs ++ p ∷ []) ≡ true → (b || is_one_of q xs ≡ true) ⊎ (p ≡ q)
    split true more k = inl refl
    split false more k = more k

on_joined : (J : ℕ → Type 0) (p : ℕ) (x : Flight) → J p → Was J x (joined p x)
on_joined J p x so = record { target = refl; flew = λ e. e; awaited = λ q h. ⊎_elim (λ (k : is_one_of q x.queries ≡ true). inl k) (λ (e : p ≡ q). inr (subst J e so)) (one_of_more q p x.queries h) }

-- the flight was there before
pub record Older (s : State) (e : Entry) (f : ℕ) (y : Flight) : Type 0 where
  pub flight : Flight
  pub there : IsFlight s f flight
  pub was : Was (λ q. e ≡ Joined q f) flight y

-- the flight begins by this entry
pub record Newer (s : State) (e : Entry) (f : ℕ) (y : Flight) : Type 0 where
  pub by : ℕ
  pub target : Target
  pub is : e ≡ Began by f target
  pub number : f ≡ length s.flights
  pub flight : y ≡ record { target = target; phase = flying; queries = by ∷ [] }

map_some : {X Y : Type 0} (g : X → Y) (o : Option X) (y : Y) → option_map g o ≡ Some y → (x : X) × (o ≡ Some x) × (y ≡ g x)
map_some g None y e = cc
map_some g (Some x) y e = (x, refl, cc)

-- one flight changes
from_change : (s : State) (e : Entry) (g f : ℕ) (h : Flight → Flight) (y : Flight) → slice_get (change g h s.flights) f ≡ Some y
    → ((x : Flight) → f ≡ g → Was (λ q. e ≡ Joined q f) x (h x)) → Older s e f y
from_change s e g f h y known on =
    ⊎_elim
    (λ (same : f ≡ g).
    let m = map_some h (slice_get s.flights f) y (sym (get_changed f h s.flights) ∙ ap (λ n. slice_get (change n h s.flights) f) same ∙ known) in
    record { flight = m.0; there = m.1; was = subst (Was (λ q. e ≡ Joined q f) m.0) (sym m.2) (on m.0 same) })
    (λ (ne : f ≢ g). record { flight = y; there = sym (get_unchanged g f h s.flights ne) ∙ known; was = stays _ y })
    (cases_eq f g)

from_map : (s : State) (e : Entry) (p f : ℕ) (y : Flight) → slice_get (map (parted p) s.flights) f ≡ Some y → Older s e f y
from_map s e p f y known =
    let m = map_some (parted p) (slice_get s.flights f) y (sym (get_map (parted p) s.flights f) ∙ known) in
    record { flight = m.0; there = m.1; was = subst (Was (λ q. e ≡ Joined q f) m.0) (sym m.2) (on_parted _ p m.0) }

as_before : (s : State) (e : Entry) (f : ℕ) (y : Flight) → IsFlight s f y → Older s e f y
as_before s e f y known = record { flight = y; there = known; was = stays _ y }

-- a flight behind an entry was there before, or begins by it
pub came_from : (budget f : ℕ) (s : State) (e : Entry) (y : Flight) → Allowed budget s e → IsFlight (step s e) f y → Older s e f y ⊎ Newer s e f y
came_from budget f s (Opened p) y may known = inl (as_before s _ f y known)
came_from budget f s (Began p g t) y may known =
    ⊎_elim
    (λ (e : f ≡ length s.flights).
    let new : slice_get (s.flights ++ record { target = t; phase = flying; queries = p ∷ [] } ∷ []) f ≡ Some (record { target = t; phase = flying; queries = p ∷ [] }) =
    ap (λ n. slice_get (s.flights ++ record { target = t; phase = flying; queries = p ∷ [] } ∷ []) n) e ∙ get_last s.flights _ in
    let same : Some y ≡ Some (record { target = t; phase = flying; queries = p ∷ [] }) = sym known ∙ new in
    inr (record { by = p; target = t; is = ap (λ n. Began p n t) (may.2 ∙ sym e); number = e; flight = cc }))
    (λ (ne : f ≢ length s.flights). inl (as_before s _ f y (sym (get_before_last s.flights _ f ne) ∙ known)))
    (cases_eq f (length s.flights))
came_from budget f s (Joined p g) y may known = inl (from_change s (Joined p g) g f (joined p) y known (λ x same. on_joined _ p x (ap (λ n. Joined p n) (sym same))))
came_from budget f s (Hit p g) y may known = inl (as_before s _ f y known)
came_from budget f s (Taken p g) y may known = inl (from_change s (Taken p g) g f (parted p) y known (λ x same. on_parted _ p x))
came_from budget f s (Landed p g size) y may known = inl (from_change s (Landed p g size) g f (came_to size p) y known (λ x same. on_landed _ size p x))
came_from budget f s (Lost p g) y may known = inl (from_change s (Lost p g) g f ended y known (λ x same. on_ended _ x))
came_from budget f s (Cancelled p) y may known = inl (from_map s _ p f y known)
came_from budget f s (Closed p) y may known = inl (from_map s _ p f y known)
came_from budget f s (Evicted g) y may known = inl (as_before s _ f y known)
came_from budget f s (Refreshed g) y may known = inl (as_before s _ f y known)
came_from budget f s (Abandoned g) y may known = inl (from_change s (Abandoned g) g f ended y known (λ x same. on_ended _ x))

-- ---- what is kept behind an entry
-- a flight is kept by this entry
abbrev IsKeptBy : ℕ → Entry → Type 0
IsKeptBy f e = (q size : ℕ) × (e ≡ Landed q f (Some size))

listed_only : (f g : ℕ) (ps : List (ℕ × ℕ)) → is_listed f (only g ps) ≡ true → is_listed f ps ≡ true
listed_only f g [] h = h
listed_only f g (p ∷ ps) h = split (p.0 == g) (listed_only f g ps) h
  where
    behind : (c : Bool) → (is_listed f (only g ps) ≡ true → is_listed f ps ≡ true) → (if c then true else is_listed f (only g ps)) ≡ true → (if c then true else is_listed f ps) ≡ true
    behind true more k = refl
    behind false more k = more k

    split : (b : Bool) → (is_listed f (only g ps) ≡ true → is_listed f ps ≡ true) → is_listed f (if b then p ∷ only g ps else only g ps) ≡ true → is_listed f (p ∷ ps) ≡ true
    split true more k = behind (p.0 == f) more k
    split false more k = listed_behind f p ps (more k)

listed_without : (f g : ℕ) (ps : List (ℕ × ℕ)) → is_listed f (without g ps) ≡ true → is_listed f ps ≡ true
listed_without f g [] h = h
listed_without f g (p ∷ ps) h = split (p.0 == g) (listed_without f g ps) h
  where
    behind : (c : Bool) → (is_listed f (without g ps) ≡ true → is_listed f ps ≡ true) → (if c then true else is_listed f (without g ps)) ≡ true → (if c then true else is_listed f ps) ≡ true
    behind true more k = refl
    behind false more k = more k

    split : (b : Bool) → (is_listed f (without g ps) ≡ true → is_listed f ps ≡ true) → is_listed f (if b then without g ps else p ∷ without g ps) ≡ true → is_listed f (p ∷ ps) ≡ true
    split true more k = listed_behind f p ps (more k)
    split false more k = behind (p.0 == f) more k

listed_append : (f : ℕ) (a b : List (ℕ × ℕ)) → is_listed f (a ++ b) ≡ true → (is_listed f a ≡ true) ⊎ (is_listed f b ≡ true)
listed_append f [] b h = inr h
listed_append f (p ∷ a) b h = split (p.0 == f) (listed_append f a b) h
  where
    split : (c : Bool) → (is_listed f (a ++ b) ≡ true → (is_listed f a ≡ true) ⊎ (is_listed f b ≡ true)) → (if c then true else is_listed f (a ++ b)) ≡ true → ((if c then true else is_listed f a) ≡ true) ⊎ (is_listed f b ≡ true)
    split true more k = inl refl
    split false more k = more k

-- what is kept behind an entry was kept before, or is kept by it
kept_from : (s : State) (e : Entry) (f : ℕ) → is_listed f (step s e).kept ≡ true → (is_listed f s.kept ≡ true) ⊎ IsKeptBy f e
kept_from s (Opened p) f h = inl h
kept_from s (Began p g t) f h = inl h
kept_from s (Joined p g) f h = inl h
kept_from s (Hit p g) f h = inl (⊎_elim (listed_only f g s.kept) (listed_without f g s.kept) (listed_append f (only g s.kept) (without g s.kept) h))
kept_from s (Taken p g) f h = inl h
kept_from s (Landed p g None) f h = inl h
kept_from s (Landed p g (Some size)) f h = split (g == f) refl h
  where
    split : (b : Bool) → (g == f) ≡ b → (if b then true else is_listed f s.kept) ≡ true → (is_listed f s.kept ≡ true) ⊎ IsKeptBy f (Landed p g (Some size))
    split true e k = let same : g ≡ f = grind (arith, e) in inr (p, size, ap (λ n. Landed p n (Some size)) same)
    split false e k = inl k
kept_from s (Lost p g) f h = inl h
kept_from s (Cancelled p) f h = inl h
kept_from s (Closed p) f h = inl h
kept_from s (Evicted g) f h = inl (listed_without f g s.kept h)
kept_from s (Refreshed g) f h = inl (listed_without f g s.kept h)
kept_from s (Abandoned g) f h = inl h

-- ---- what is so of each state behind a legal journal
-- a kept flight landed with a size; who awaits a flight is open; and no two flights that fly or are kept have one key
pub record IsSound (s : State) : Type 0 where
  pub sized : (f : ℕ) → is_listed f s.kept ≡ true → (size : ℕ) × (x : Flight) × IsFlight s f x × (x.phase ≡ landed (Some size))
  pub opened : (q f : ℕ) (x : Flight) → IsFlight s f x → is_one_of q x.queries ≡ true → IsOpen s q
  pub one_key : (f g : ℕ) (t u : Target) → HoldsKey s f t → HoldsKey s g u → t.key ≡ u.key → f ≡ g

pub sound_nothing : IsSound nothing
sound_nothing = record {
  sized = λ f h. absurd (true≢false (sym h));
  opened = λ q f x e h. absurd (never f x e);
  one_key = λ f g t u a b e. absurd (none f t a);
}
  where
    never : (f : ℕ) (x : Flight) → IsFlight nothing f x → ⊥
    never f x e = cc

    none : (f : ℕ) (t : Target) → HoldsKey nothing f t → ⊥
    none f t a = ⊎_elim (λ (w : Flies nothing f t). never f w.0 w.1) (λ (w : IsKept nothing f t). never f w.0 w.1) a

abbrev sized_flight : State → ℕ → Type 0
sized_flight s f = (size : ℕ) × (x : Flight) × IsFlight s f x × (x.phase ≡ landed (Some size))

landed≢flying : (size : Option ℕ) → landed size ≢ flying
landed≢flying size e = cc

sized_step : (budget : ℕ) (s : State) (e : Entry) → Allowed budget s e → IsSound s → (f : ℕ) → is_listed f (step s e).kept ≡ true → sized_flight (step s e) f
sized_step budget s e may sound f h = ⊎_elim old (new e may) (kept_from s e f h)
  where
    old : is_listed f s.kept ≡ true → sized_flight (step s e) f
    old k = let w = sound.sized f k in
        let y = over_stays budget f s e w.1 may w.2 (λ flies. landed≢flying (Some w.0) (sym w.3 ∙ flies)) in
        (w.0, y.0, y.1, y.2 ∙ w.3)

    new : (e' : Entry) → Allowed budget s e' → IsKeptBy f e' → sized_flight (step s e') f
    new e' may' k = subst (λ (x : Entry). Allowed budget s x → sized_flight (step s x) f) (sym k.2) (λ (m : Allowed budget s (Landed k.0 f (Some k.1))). let w = m.2 in (k.1, came_to (Some k.1) k.0 w.0, get_changed f (came_to (Some k.1) k.0) s.flights ∙ ap (option_map (came_to (Some k.1) k.0)) w.1, refl)) may'

-- ---- who is open
pub never_itself : (q : ℕ) (xs : List ℕ) → is_one_of q (all_but q xs) ≡ true → ⊥
never_itself q [] h = true≢false (sym h)
never_itself q (x ∷ xs) h = split (x == q) refl (never_itself q xs) h
  where
    split : (b : Bool) → (x == q) ≡ b → (is_one_of q (all_but q xs) ≡ true → ⊥) → is_one_of q (cond (not b) (x ∷ all_but q xs) (all_but q xs)) ≡ true → ⊥
    split true e never k = never k
    split false e never k = never (ap (λ (c : Bool). c || is_one_of q (all_but q xs)) (sym e) ∙ k)

-- an open query stays open, unless it leaves by this entry
abbrev LeavesBy : ℕ → Entry → Type 0
LeavesBy q e = (e ≡ Cancelled q) ⊎ (e ≡ Closed q)

still_open : (budget q : ℕ) (s : State) (e : Entry) → Allowed budget s e → IsOpen s q → IsOpen (step s e) q ⊎ LeavesBy q e
still_open budget q s (Opened p) may is = inl (get_before_last s.live true q (λ e. let b = slice_get_within s.live q true is in omega arith) ∙ is)
still_open budget q s (Began p g t) may is = inl is
still_open budget q s (Joined p g) may is = inl is
still_open budget q s (Hit p g) may is = inl is
still_open budget q s (Taken p g) may is = inl is
still_open budget q s (Landed p g size) may is = inl is
still_open budget q s (Lost p g) may is = inl is
still_open budget q s (Cancelled p) may is = ⊎_elim (λ (e : q ≡ p). inr (inl (ap (λ n. Cancelled n) (sym e)))) (λ (ne : q ≢ p). inl (get_unset p q false s.live ne ∙ is)) (cases_eq q p)
still_open budget q s (Closed p) may is = ⊎_elim (λ (e : q ≡ p). inr (inr (ap (λ n. Closed n) (sym e)))) (λ (ne : q ≢ p). inl (get_unset p q false s.live ne ∙ is)) (cases_eq q p)
still_open budget q s (Evicted g) may is = inl is
still_open budget q s (Refreshed g) may is = inl is
still_open budget q s (Abandoned g) may is = inl is

-- who leaves awaits no flight
pub leaves_all : (s : State) (q f : ℕ) (y : Flight) → slice_get (map (parted q) s.flights) f ≡ Some y → is_one_of q y.queries ≡ true → ⊥
leaves_all s q f y known h =
    let m = map_some (parted q) (slice_get s.flights f) y (sym (get_map (parted q) s.flights f) ∙ known) in
    never_itself q m.0.queries (ap (λ (z : Flight). is_one_of q z.queries) (sym m.2) ∙ h)

opened_step : (budget : ℕ) (s : State) (e : Entry) → Allowed budget s e → IsSound s → (q f : ℕ) (y : Flight) → IsFlight (step s e) f y → is_one_of q y.queries ≡ true → IsOpen (step s e) q
opened_step budget s e may sound q f y known h =
    ⊎_elim (λ (o : IsOpen (step s e) q). o) (λ (l : LeavesBy q e). absurd (gone_by e l known)) (still_open budget q s e may (⊎_elim older newer (came_from budget f s e y may known)))
  where
    gone_by : (e' : Entry) → LeavesBy q e' → IsFlight (step s e') f y → ⊥
    gone_by e' l there = ⊎_elim
        (λ (i : e' ≡ Cancelled q). leaves_all s q f y (subst (λ (x : Entry). IsFlight (step s x) f y) i there) h)
        (λ (i : e' ≡ Closed q). leaves_all s q f y (subst (λ (x : Entry). IsFlight (step s x) f y) i there) h)
        l

    joiner : (e' : Entry) → Allowed budget s e' → e' ≡ Joined q f → IsOpen s q
    joiner e' may' i = let m : Allowed budget s (Joined q f) = subst (λ (x : Entry). Allowed budget s x) i may' in m.1

    older : Older s e f y → IsOpen s q
    older o = ⊎_elim (λ (k : is_one_of q o.flight.queries ≡ true). sound.opened q f o.flight o.there k) (λ (i : e ≡ Joined q f). joiner e may i) (o.was.awaited q h)

    newer : Newer s e f y → IsOpen s q
    newer n =
        let m : Allowed budget s (Began n.by f n.target) = subst (λ (x : Entry). Allowed budget s x) n.is may in
        let k : is_one_of q (n.by ∷ []) ≡ true = ap (λ (z : Flight). is_one_of q z.queries) (sym n.flight) ∙ h in
        let same : n.by ≡ q = only_one n.by k in
        subst (λ p. IsOpen s p) same m.1
      where
        only_one : (p : ℕ) → is_one_of q (p ∷ []) ≡ true → p ≡ q
        only_one p k = ⊎_elim (λ (z : is_one_of q [] ≡ true). absurd (true≢false (sym z))) (λ (e : p ≡ q). e) (one_of_more q p [] k)

-- ---- one flight a key
-- the flight begins by this entry
abbrev BeginsBy : Entry → ℕ → Target → Type 0
BeginsBy e f t = (q : ℕ) × (e ≡ Began q f t)

-- a flight that holds its key behind an entry held it before, or begins by it
held_before : (budget : ℕ) (s : State) (e : Entry) → Allowed budget s e → IsSound s → (f : ℕ) (t : Target) → HoldsKey (step s e) f t → HoldsKey s f t ⊎ BeginsBy e f t
held_before budget s e may sound f t holds = ⊎_elim flew was_kept holds
  where
    flew : Flies (step s e) f t → HoldsKey s f t ⊎ BeginsBy e f t
    flew w = ⊎_elim
        (λ (o : Older s e f w.0). inl (inl (o.flight, o.there, o.was.flew w.2, sym o.was.target ∙ w.3)))
        (λ (n : Newer s e f w.0). inr (n.by, n.is ∙ ap (λ (u : Target). Began n.by f u) (sym (ap (λ (y : Flight). y.target) n.flight) ∙ w.3)))
        (came_from budget f s e w.0 may w.1)

    was_kept : IsKept (step s e) f t → HoldsKey s f t ⊎ BeginsBy e f t
    was_kept w = ⊎_elim
        (λ (k : is_listed f s.kept ≡ true). ⊎_elim
        (λ (o : Older s e f w.0). inl (inr (o.flight, o.there, k, sym o.was.target ∙ w.3)))
        (λ (n : Newer s e f w.0). let z = sound.sized f k in let below = slice_get_within s.flights f z.1 z.2 in absurd (not_below f (length s.flights) n.number below))
        (came_from budget f s e w.0 may w.1))
        (λ (k : IsKeptBy f e).
        let m : Allowed budget s (Landed k.0 f (Some k.1)) = subst (λ (x : Entry). Allowed budget s x) k.2 may in
        ⊎_elim
        (λ (o : Older s e f w.0). inl (inl (o.flight, o.there, ap (λ (x : Flight). x.phase) (one_flight s f o.flight m.2.0 o.there m.2.1) ∙ m.2.2, sym o.was.target ∙ w.3)))
        (λ (n : Newer s e f w.0). absurd (not_both k.0 n.by f k.1 n.target (sym k.2 ∙ n.is)))
        (came_from budget f s e w.0 may w.1))
        (kept_from s e f w.2)
      where
        not_below : (m n : ℕ) → m ≡ n → m < n → ⊥
        not_below m n same below = let bad : ⊥ = omega arith in bad

        not_both : (p q g z : ℕ) (u : Target) → Landed p g (Some z) ≡ Began q g u → ⊥
        not_both p q g z u same = cc

one_key_step : (budget : ℕ) (s : State) (e : Entry) → Allowed budget s e → IsSound s → (f g : ℕ) (t u : Target) → HoldsKey (step s e) f t → HoldsKey (step s e) g u → t.key ≡ u.key → f ≡ g
one_key_step budget s e may sound f g t u a b same =
    ⊎_elim
    (λ (c : HoldsKey s f t). ⊎_elim
    (λ (d : HoldsKey s g u). sound.one_key f g t u c d same)
    (λ (d : BeginsBy e g u). absurd (free g u d f t c same))
    (held_before budget s e may sound g u b))
    (λ (c : BeginsBy e f t). ⊎_elim
    (λ (d : HoldsKey s g u). absurd (free f t c g u d (sym same)))
    (λ (d : BeginsBy e g u). one_number c.0 d.0 f g t u (sym c.1 ∙ d.1))
    (held_before budget s e may sound g u b))
    (held_before budget s e may sound f t a)
  where
    free : (h : ℕ) (v : Target) → BeginsBy e h v → (k : ℕ) (w : Target) → HoldsKey s k w → w.key ≡ v.key → ⊥
    free h v begins k w holds is =
        let m : Allowed budget s (Began begins.0 h v) = subst (λ (x : Entry). Allowed budget s x) begins.1 may in
        m.3 k w holds is

    one_number : (p q h k : ℕ) (v w : Target) → Began p h v ≡ Began q k w → h ≡ k
    one_number p q h k v w is = cc

sound_step : (budget : ℕ) (s : State) (e : Entry) → Allowed budget s e → IsSound s → IsSound (step s e)
sound_step budget s e may sound = record {
  sized = sized_step budget s e may sound;
  opened = opened_step budget s e may sound;
  one_key = one_key_step budget s e may sound;
}

sound_from : (budget : ℕ) (s : State) (es : List Entry) → IsSound s → LegalFrom budget s es → IsSound (after_from s es)
unfolding after_from LegalFrom
sound_from budget s [] sound legal = sound
sound_from budget s (e ∷ es) sound legal = sound_from budget (step s e) es (sound_step budget s e legal.0 sound) legal.1

-- the state behind a legal journal is sound
pub sound_after : (budget : ℕ) (journal : List Entry) → Legal budget journal → IsSound (after journal)
sound_after budget journal legal = sound_from budget nothing journal sound_nothing legal

-- ---- what follows of a legal journal
pub one_key_after : (budget f g : ℕ) (journal : List Entry) (t u : Target) → Legal budget journal → HoldsKey (after journal) f t → HoldsKey (after journal) g u → t.key ≡ u.key → f ≡ g
one_key_after budget f g journal t u legal a b same = (sound_after budget journal legal).one_key f g t u a b same

pub sized_after : (budget f : ℕ) (journal : List Entry) → Legal budget journal → is_listed f (after journal).kept ≡ true
    → (size : ℕ) × (x : Flight) × IsFlight (after journal) f x × (x.phase ≡ landed (Some size))
sized_after budget f journal legal h = (sound_after budget journal legal).sized f h

pub kept_apart : (budget f g : ℕ) (journal : List Entry) (t u : Target) → Legal budget journal → IsKept (after journal) f t → Flies (after journal) g u → t.key ≢ u.key
kept_apart budget f g journal t u legal kept flies same =
    let number = one_key_after budget f g journal t u legal (inr kept) (inl flies) same in
    let z = sized_after budget f journal legal kept.2 in
    let one : z.1 ≡ flies.0 = one_flight (after journal) f z.1 flies.0 z.2 (ap (λ n. slice_get (after journal).flights n) number ∙ flies.1) in
    landed≢flying (Some z.0) (sym z.3 ∙ ap (λ (x : Flight). x.phase) one ∙ flies.2)

pub waits_open : (budget q f : ℕ) (journal : List Entry) → Legal budget journal → WaitsIn (after journal) q f → IsOpen (after journal) q
waits_open budget q f journal legal w = (sound_after budget journal legal).opened q f w.0 w.1 w.3

pub owed_open : (budget q f : ℕ) (journal : List Entry) → Legal budget journal → IsOwed (after journal) q f → IsOpen (after journal) q
owed_open budget q f journal legal w = (sound_after budget journal legal).opened q f w.0 w.1 w.3
