-- A world stays sound when one place changes.
use Rattle.std.specs.Prelude.{◌≡◌, ◌≢◌, ◌<◌, ◌⊎◌, ℕ, zero, suc, Bool, true, false, not, List, [], ◌∷◌, length, slice_get, slice_set, Option, Some, None, refl}
use Rattle.std.proofs.Common.{sym, ◌∙◌, ap, subst, inl, inr, arith, true≢false}
use Rattle.std.proofs.lemmas.Bool.{cases_eq}
use Rattle.std.proofs.lemmas.List.{length-set, set-set}
use Rattle.std.proofs.lemmas.Option.{slice_get_within, same_Some, none-some}
use Rattle.link_io.specs.Conn.{LinkFacts}
use Rattle.link_io.specs.Origin.{Origin}
use Rattle.closure_request.specs.Request.{Asking}
use Rattle.flight_journal.specs.Journal.{after}
use Rattle.flight_journal.specs.State.{is_open}
use Rattle.flight_rows.specs.Sight.{Sight}
use Rattle.flight_table.specs.Doors.{Gate, TellsDoor, whole}
use Rattle.flight_table.specs.Facts.{Facts}
use Rattle.flight_table.specs.Follows.{Enters, LeavesTable, Stays}
use Rattle.flight_table.specs.Tells.{Tells}
use Rattle.query_needs.specs.Targets.{IsFormed}
use Rattle.query_future.specs.Queries.{HadRequest, IsQuery, Queried, Turns}
use Rattle.query_future.specs.Stands.{Carries, HasRequest}
use Rattle.gateway_core.specs.declared.world.Place.{Place}
use Rattle.gateway_core.specs.declared.world.Place.TheVariants.{Unopened, Running, Done, Cancelled}
use Rattle.gateway_core.specs.declared.world.World.{World}
use Rattle.gateway_core.specs.Events.{Keeps}
use Rattle.gateway_core.specs.Places.{IsFor, IsNothing, IsWell, OpensTo, TurnsTo, facts_at, facts_in, facts_of, is_idle, is_running, is_unopened}
use Rattle.gateway_core.specs.Sound.{AreFormed, AreSound, Fits, IsSound, IsWholeDoor, RunsAt}

pub not_so : (b : Bool) → not b ≡ true → b ≡ false
not_so false e = refl
not_so true e = sym e

pub get_set_same : {X : Type 0} (xs : List X) (i : ℕ) (y : X) → i < length xs → slice_get (slice_set xs i y) i ≡ Some y
get_set_same [] i y h = absurd (omega arith)
get_set_same (x ∷ xs) zero y h = refl
get_set_same (x ∷ xs) (suc i) y h = get_set_same xs i y (omega arith)

pub get_set_else : {X : Type 0} (xs : List X) (i j : ℕ) (y : X) → j ≢ i → slice_get (slice_set xs i y) j ≡ slice_get xs j
get_set_else [] i j y n = refl
get_set_else (x ∷ xs) zero zero y n = absurd (n refl)
get_set_else (x ∷ xs) zero (suc j) y n = refl
get_set_else (x ∷ xs) (suc i) zero y n = refl
get_set_else (x ∷ xs) (suc i) (suc j) y n = get_set_else xs i j y (λ e. n (ap suc e))

-- a change of what one place's pass says, which the law of the table carries to all others
pub record Shifts (s t : Sight) (old new : Option Facts) : Type 0 where
  pub now : (g : Facts) → new ≡ Some g → Tells t g
  pub others : (o : Facts) → Tells s o → ((f : Facts) → old ≡ Some f → o.query ≢ f.query) → Tells t o
  pub fresh : (g o : Facts) → new ≡ Some g → Tells s o → ((f : Facts) → old ≡ Some f → o.query ≢ f.query) → o.query ≢ g.query
  pub opens : (q : ℕ) → is_open (after t.journal) q ≡ true → ((g : Facts) × ((new ≡ Some g) × (g.query ≡ q))) ⊎ ((is_open (after s.journal) q ≡ true) × ((f : Facts) → old ≡ Some f → f.query ≢ q))

-- a call with the pass of the place
pub shifts_carries : (s t : Sight) (f g : Facts) → Tells s f → Carries s t f g → Shifts s t (Some f) (Some g)
shifts_carries s t f g h y = record {
  now = λ o e. subst (λ z. Tells t z) (same_Some g o e) (y.now h);
  others = λ o a n. y.others o (n f refl) a;
  fresh = λ o p e a n q. n f refl (q ∙ ap (λ (z : Facts). z.query) (sym (same_Some g o e)) ∙ y.query);
  opens = λ q o. elim (cases_eq q f.query) [
    | inl e ↦ inl (g, (refl, y.query ∙ sym e))
    | inr n ↦ inr (sym (y.opens q n) ∙ o, λ o e p. n (sym p ∙ ap (λ (z : Facts). z.query) (sym (same_Some f o e))))
  ];
}

-- a query enters
pub shifts_enters : (s t : Sight) (g : Facts) → Enters s t g → Shifts s t None (Some g)
shifts_enters s t g y = record {
  now = λ o e. subst (λ z. Tells t z) (same_Some g o e) y.now;
  others = λ o a n. y.others o a;
  fresh = λ o p e a n q. y.fresh p a (q ∙ ap (λ (z : Facts). z.query) (sym (same_Some g o e)));
  opens = λ q o. elim (cases_eq q g.query) [
    | inl e ↦ inl (g, (refl, sym e))
    | inr n ↦ inr (sym (y.opens q n) ∙ o, λ o e p. absurd (none-some o e))
  ];
}

-- a query is given up
pub shifts_leaves : (s t : Sight) (f : Facts) → LeavesTable s t f → Shifts s t (Some f) None
shifts_leaves s t f y = record {
  now = λ o e. absurd (none-some o e);
  others = λ o a n. y.others o (n f refl) a;
  fresh = λ o p e a n q. absurd (none-some o e);
  opens = λ q o. elim (cases_eq q f.query) [
    | inl e ↦ absurd (true≢false (sym o ∙ ap (λ z. is_open (after t.journal) z) e ∙ y.gone))
    | inr n ↦ inr (sym (y.opens q n) ∙ o, λ o e p. n (sym p ∙ ap (λ (z : Facts). z.query) (sym (same_Some f o e))))
  ];
}

-- no pass takes part
pub shifts_none : (s t : Sight) → t ≡ s → Shifts s t None None
shifts_none s t e = record {
  now = λ o e. absurd (none-some o e);
  others = λ o a n. subst (λ z. Tells z o) (sym e) a;
  fresh = λ o p e a n q. absurd (none-some o e);
  opens = λ q o. inr (ap (λ (z : Sight). is_open (after z.journal) q) (sym e) ∙ o, λ o e p. absurd (none-some o e));
}

module _ {N D L : Type 0} where
  pub fits_put : (rs : List Asking) (w v : World N D L) (i : ℕ) (x old : Place N D L) → slice_get w.places.items i ≡ Some old → ((r : Asking) → IsFor r old → IsFor r x) → v.places.items ≡ slice_set w.places.items i x → v.channels.items ≡ w.channels.items → v.subdirs.items ≡ w.subdirs.items → Fits rs w → Fits rs v
  fits_put rs w v i x old e k q c b h = record {
    many = ap length q ∙ length-set w.places.items i x ∙ h.many;
    places = λ j p g. elim (cases_eq j i) [
      | inl a ↦ (let r = h.places i old e in
          let b : Some x ≡ Some p = sym (get_set_same w.places.items i x (slice_get_within w.places.items i old e)) ∙ subst (λ (z : ℕ). slice_get (slice_set w.places.items i x) z ≡ Some p) a (ap (λ (z : List (Place N D L)). slice_get z j) (sym q) ∙ g) in
          (r.0, subst (λ (z : ℕ). slice_get rs z ≡ Some r.0) (sym a) r.1, subst (λ z. IsFor r.0 z) (same_Some x p b) (k r.0 r.2)))
      | inr n ↦ h.places j p (sym (get_set_else w.places.items i j x n) ∙ ap (λ (z : List (Place N D L)). slice_get z j) (sym q) ∙ g)
    ];
    channels = c ∙ h.channels;
    subdirs = b ∙ h.subdirs;
  }

  module _ (facts : L → LinkFacts) (from : L → Origin → Type 0) where
    -- the one lemma of all events: a place changes, and what its pass says shifts
    pub sound_put : (s t : Sight) (ps : List (Place N D L)) (i : ℕ) (x : Place N D L) → AreSound facts from s ps → i < length ps → Shifts s t (facts_at ps i) (facts_in x) → IsWell facts from x → AreSound facts from t (slice_set ps i x)
    sound_put s t ps i x h l c w = record {
      told = λ j f e. elim (cases_eq j i) [
        | inl k ↦ c.now f (sym (here j k) ∙ e)
        | inr n ↦ c.others f (h.told j f (sym (there j n) ∙ e)) (λ o p q. n (h.apart j i f o (sym (there j n) ∙ e) p q))
      ];
      apart = λ j k f g e d q. elim (cases_eq j i) [
        | inl a ↦ elim (cases_eq k i) [
          | inl b ↦ a ∙ sym b
          | inr n ↦ absurd (c.fresh f g (sym (here j a) ∙ e) (h.told k g (sym (there k n) ∙ d)) (λ o p r. n (h.apart k i g o (sym (there k n) ∙ d) p r)) (sym q))
        ]
        | inr n ↦ elim (cases_eq k i) [
          | inl b ↦ absurd (c.fresh g f (sym (here k b) ∙ d) (h.told j f (sym (there j n) ∙ e)) (λ o p r. n (h.apart j i f o (sym (there j n) ∙ e) p r)) q)
          | inr m ↦ h.apart j k f g (sym (there j n) ∙ e) (sym (there k m) ∙ d) q
        ]
      ];
      opens = λ q o. elim (c.opens q o) [
        | inl g ↦ record { place = i; pass = g.0; there = here i refl ∙ g.1.0; query = g.1.1 }
        | inr g ↦ (let r = h.opens q g.0 in
            let n : r.place ≢ i = λ k. g.1 r.pass (subst (λ (z : ℕ). facts_at ps z ≡ Some r.pass) k r.there) r.query in
            record { place = r.place; pass = r.pass; there = there r.place n ∙ r.there; query = r.query })
      ];
      well = λ j p e. elim (cases_eq j i) [
        | inl k ↦ (let a : Some x ≡ Some p = sym (get_set_same ps i x l) ∙ subst (λ (z : ℕ). slice_get (slice_set ps i x) z ≡ Some p) k e in subst (λ z. IsWell facts from z) (same_Some x p a) w)
        | inr n ↦ h.well j p (sym (get_set_else ps i j x n) ∙ e)
      ];
    }
      where
        here : (j : ℕ) → j ≡ i → facts_at (slice_set ps i x) j ≡ facts_in x
        here j k = ap (λ (z : ℕ). facts_at (slice_set ps i x) z) k ∙ ap facts_of (get_set_same ps i x l)

        there : (j : ℕ) → j ≢ i → facts_at (slice_set ps i x) j ≡ facts_at ps j
        there j n = ap facts_of (get_set_else ps i j x n)

    pub keeps_put : (w v : World N D L) (i : ℕ) (old x : Place N D L) → IsSound facts from w → slice_get w.places.items i ≡ Some old → Shifts w.table v.table (facts_in old) (facts_in x) → IsWell facts from x → ((r : Asking) → IsFor r old → IsFor r x) → IsWholeDoor v.table v.door → v.channels.items ≡ w.channels.items → v.subdirs.items ≡ w.subdirs.items → v.places.items ≡ slice_set w.places.items i x → Keeps facts from w v
    keeps_put w v i old x h e c y k d n m p = record {
      sound = record {
        places = subst (λ (ps : List (Place N D L)). AreSound facts from v.table ps) (sym p) (sound_put w.table v.table w.places.items i x h.places (slice_get_within w.places.items i old e) (subst (λ z. Shifts w.table v.table z (facts_in x)) (sym (ap facts_of e)) c) y);
        door = d;
        formed = subst (λ z. AreFormed z v.subdirs.items) (sym n) (subst (λ z. AreFormed w.channels.items z) (sym m) h.formed);
      };
      fits = λ rs f. fits_put rs w v i x old e k p n m f;
      names = record { channels = n; subdirs = m };
    }

    pub runs_told : (w : World N D L) (i : ℕ) (q : Queried L) → IsSound facts from w → slice_get w.places.items i ≡ Some (Running q) → Tells w.table q.track.pass
    runs_told w i q h e = h.places.told i q.track.pass (ap facts_of e)

    pub runs_live : (w : World N D L) (i : ℕ) (q : Queried L) → IsSound facts from w → slice_get w.places.items i ≡ Some (Running q) → q.track.pass.live ≡ true
    runs_live w i q h e = let y = h.places.well i (Running q) e in y.1

    pub waits_formed : (w : World N D L) (i : ℕ) (r : Asking) → IsSound facts from w → slice_get w.places.items i ≡ Some (Unopened r) → IsFormed r
    waits_formed w i r h e = h.places.well i (Unopened r) e

    door_carried : (w v : World N D L) (f g : Facts) → Carries w.table v.table f g → v.door ≡ w.door → IsWholeDoor w.table w.door → IsWholeDoor v.table v.door
    door_carried w v f g y e d = subst (λ z. IsWholeDoor v.table z) (sym e) (record { weight = d.weight; told = y.doors w.door d.told })

    pub keeps_turn : (w v : World N D L) (i : ℕ) (q : Queried L) (x : Place N D L) → IsSound facts from w → slice_get w.places.items i ≡ Some (Running q) → TurnsTo facts from w.table v.table q x → v.door ≡ w.door → v.channels.items ≡ w.channels.items → v.subdirs.items ≡ w.subdirs.items → v.places.items ≡ slice_set w.places.items i x → Keeps facts from w v
    keeps_turn w v i q (Unopened r) h e t d n m p = absurd t
    keeps_turn w v i q (Running r) h e t d n m p =
        let y = t.1 in
        keeps_put w v i (Running q) (Running r) h e (shifts_carries w.table v.table q.track.pass r.track.pass (runs_told w i q h e) y.carries) (y.is_query, t.2) y.request (door_carried w v q.track.pass r.track.pass y.carries d h.door) n m p
    keeps_turn w v i q (Done None f) h e t d n m p = absurd t
    keeps_turn w v i q (Done (Some r) f) h e t d n m p =
        keeps_put w v i (Running q) (Done (Some r) f) h e (shifts_carries w.table v.table q.track.pass r (runs_told w i q h e) t.0) t.1 t.2 (door_carried w v q.track.pass r t.0 d h.door) n m p
    keeps_turn w v i q Cancelled h e t d n m p = absurd t

    pub keeps_open : (w v : World N D L) (i : ℕ) (r : Asking) (x : Place N D L) → IsSound facts from w → slice_get w.places.items i ≡ Some (Unopened r) → OpensTo facts from w.table v.table w.door v.door r x → v.channels.items ≡ w.channels.items → v.subdirs.items ≡ w.subdirs.items → v.places.items ≡ slice_set w.places.items i x → Keeps facts from w v
    keeps_open w v i r (Unopened q) h e t n m p = absurd t
    keeps_open w v i r (Running q) h e t n m p =
        keeps_put w v i (Unopened r) (Running q) h e (shifts_enters w.table v.table q.track.pass t.0) (t.1, t.2) (λ s k. subst (λ z. HasRequest z q.work) k t.3)
        (record { weight = ap (λ (z : Gate). z.weight) t.5 ∙ h.door.weight; told = t.6 }) n m p
    keeps_open w v i r (Done None f) h e t n m p =
        keeps_put w v i (Unopened r) (Done None f) h e (shifts_none w.table v.table t.1) t.0 (λ s k. subst (λ z. HadRequest s z) (sym t.0.outcome) tt)
        (subst (λ z. IsWholeDoor v.table z) (sym t.2) (subst (λ z. IsWholeDoor z w.door) (sym t.1) h.door)) n m p
    keeps_open w v i r (Done (Some q) f) h e t n m p = absurd t
    keeps_open w v i r Cancelled h e t n m p = absurd t

    pub keeps_cancel : (w v : World N D L) (i : ℕ) (q : Queried L) → IsSound facts from w → slice_get w.places.items i ≡ Some (Running q) → LeavesTable w.table v.table q.track.pass → v.door.weight ≡ w.door.weight → TellsDoor v.table v.door → v.channels.items ≡ w.channels.items → v.subdirs.items ≡ w.subdirs.items → v.places.items ≡ slice_set w.places.items i Cancelled → Keeps facts from w v
    keeps_cancel w v i q h e l d t n m p = keeps_put w v i (Running q) Cancelled h e (shifts_leaves w.table v.table q.track.pass l) tt (λ r k. tt) (record { weight = d ∙ h.door.weight; told = t }) n m p

    -- no place takes part
    pub keeps_stays : (w v : World N D L) → IsSound facts from w → Stays w.table v.table → v.door.weight ≡ w.door.weight → TellsDoor v.table v.door → v.channels.items ≡ w.channels.items → v.subdirs.items ≡ w.subdirs.items → v.places.items ≡ w.places.items → Keeps facts from w v
    keeps_stays w v h y d t n m p = record {
      sound = record {
        places = subst (λ (ps : List (Place N D L)). AreSound facts from v.table ps) (sym p) (record { told = λ i f e. y.others f (h.places.told i f e); apart = h.places.apart; opens = λ q o. h.places.opens q (sym (y.opens q) ∙ o); well = h.places.well });
        door = record { weight = d ∙ h.door.weight; told = t };
        formed = subst (λ z. AreFormed z v.subdirs.items) (sym n) (subst (λ z. AreFormed w.channels.items z) (sym m) h.formed);
      };
      fits = λ rs f. record { many = ap length p ∙ f.many; places = λ j x e. f.places j x (ap (λ (z : List (Place N D L)). slice_get z j) (sym p) ∙ e); channels = n ∙ f.channels; subdirs = m ∙ f.subdirs };
      names = record { channels = n; subdirs = m };
    }

    -- nothing happened
    pub keeps_same : (w v : World N D L) → IsSound facts from w → v ≡ w → Keeps facts from w v
    keeps_same w v h e = record {
      sound = subst (λ z. IsSound facts from z) (sym e) h;
      fits = λ rs f. subst (λ z. Fits rs z) (sym e) f;
      names = record { channels = ap (λ (z : World N D L). z.channels.items) e; subdirs = ap (λ (z : World N D L). z.subdirs.items) e };
    }

  -- a place that was taken out and put in again
  pub put_again : (ps qs rs : List (Place N D L)) (i : ℕ) (x y : Place N D L) → qs ≡ slice_set ps i x → rs ≡ slice_set qs i y → rs ≡ slice_set ps i y
  put_again ps qs rs i x y e d = d ∙ ap (λ (z : List (Place N D L)). slice_set z i y) e ∙ set-set ps i x y

  pub still_there : (ps qs : List (Place N D L)) (i : ℕ) (x y : Place N D L) → slice_get ps i ≡ Some x → qs ≡ slice_set ps i y → i < length qs
  still_there ps qs i x y e d = subst (λ z. i < z) (sym (ap length d ∙ length-set ps i y)) (slice_get_within ps i x e)

  -- what waits at a place is a request, and what runs there is a query
  pub waits_is : (p : Place N D L) → is_unopened (Some p) ≡ true → (r : Asking) × (p ≡ Unopened r)
  waits_is (Unopened r) e = (r, refl)
  waits_is (Running q) e = absurd (true≢false (sym e))
  waits_is (Done p f) e = absurd (true≢false (sym e))
  waits_is Cancelled e = absurd (true≢false (sym e))

  pub runs_is : (p : Place N D L) → is_running (Some p) ≡ true → (q : Queried L) × (p ≡ Running q)
  runs_is (Unopened r) e = absurd (true≢false (sym e))
  runs_is (Running q) e = (q, refl)
  runs_is (Done p f) e = absurd (true≢false (sym e))
  runs_is Cancelled e = absurd (true≢false (sym e))

  pub idle_runs : (p : Place N D L) → is_idle (Some p) ≡ true → (q : Queried L) × (p ≡ Running q)
  idle_runs (Unopened r) e = absurd (true≢false (sym e))
  idle_runs (Running q) e = (q, refl)
  idle_runs (Done p f) e = absurd (true≢false (sym e))
  idle_runs Cancelled e = absurd (true≢false (sym e))
