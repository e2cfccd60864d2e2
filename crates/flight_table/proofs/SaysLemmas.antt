-- What each answer says of the pass.
use Rattle.std.proofs.Common.{◌≡◌, ◌⊎◌, ℕ, ◌<◌, Bool, true, false, true≢false, not, if◌then◌else◌, List, [], ◌∷◌, ◌++◌, length, map, Option, Some, None, slice_get, refl, sym, ap, ◌∙◌, subst, inl, inr, arith}
use Rattle.std.specs.Option.{is_some, option_map}
use Rattle.std.proofs.lemmas.Option.{slice_get_within}
use Rattle.link_io.specs.Origin.{Origin}
use Rattle.link_io.specs.Target.{IsPlain}
use Rattle.link_io.specs.declared.target.Key.{Key}
use Rattle.link_io.specs.declared.target.Target.{Target}
use Rattle.flight_journal.specs.declared.entry.Entry.TheVariants.{Joined}
use Rattle.flight_journal.specs.State.{Flight, State, landed, IsFlight, IsOwed}
use Rattle.flight_journal.specs.Journal.{after}
use Rattle.flight_journal.specs.Count.{Among, IsOnce, only_if, is_wreck}
use Rattle.flight_journal.proofs.ListLemmas.{get_map, get_last, get_before_last}
use Rattle.flight_journal.proofs.CarryLemmas.{one_flight}
use Rattle.flight_journal.proofs.FetchLemmas.{flights_are_begun}
use Rattle.flight_rows.specs.Sight.{Sight, IsSightSound}
use Rattle.flight_rows.specs.Serves.{IsKeptFor, HasKept, FliesFor, HasLanded}
use Rattle.flight_table.specs.Facts.{Facts, hit_pass, awaiting_pass, taken_pass, missed_pass, missing_pass, awaits_but, is_awaited, wreck_of}
use Rattle.flight_table.specs.Knows.{Knows}
use Rattle.flight_table.specs.Saying.{target_of, target_at}
use Rattle.flight_table.specs.Tells.{Tells}
use Rattle.flight_table.specs.Follows.{Hits, Awaits, Ends, Parts, Removes}
use Rattle.flight_table.proofs.AwaitsLemmas.{removes, awaited_by, awaited_of}

-- ---- targets
pub target_is : (s : State) (f : ℕ) (x : Flight) → IsFlight s f x → target_at s f ≡ x.target
target_is s f x there = ap target_of there

-- each flight was begun for a plain target
pub flight_plain : (s : Sight) (f : ℕ) (x : Flight) → IsSightSound s → IsFlight (after s.journal) f x → IsPlain x.target
flight_plain s f x sound there =
    sound.plain f x.target (ap (λ (l : List Target). slice_get l f) (sym (flights_are_begun s.journal)) ∙ get_map (λ (y : Flight). y.target) (after s.journal).flights f ∙ ap (option_map (λ (y : Flight). y.target)) there)

-- a flight that is awaited from now on was not awaited before
pub new_by : (f : ℕ) (u : Target) (al : List (ℕ × Target)) → IsOnce (map (λ a. a.0) (al ++ (f, u) ∷ [])) → (t : Target) → ¬ Among (f, t) al
new_by f u al once t among =
    let at_end : slice_get (map (λ a. a.0) (al ++ (f, u) ∷ [])) (length al) ≡ Some f = get_map (λ a. a.0) (al ++ (f, u) ∷ []) (length al) ∙ ap (option_map (λ a. a.0)) (get_last al (f, u)) in
    let there : slice_get (map (λ a. a.0) (al ++ (f, u) ∷ [])) among.0 ≡ Some f = get_map (λ a. a.0) (al ++ (f, u) ∷ []) among.0 ∙ ap (option_map (λ a. a.0)) more_at in
    past among.0 (length al) (once among.0 (length al) f there at_end) (slice_get_within al among.0 (f, t) among.1)
  where
    past : (m n : ℕ) → m ≡ n → m < n → ⊥
    past m n same less = let bad : ⊥ = omega arith in bad

    more_at : slice_get (al ++ (f, u) ∷ []) among.0 ≡ Some (f, t)
    more_at = get_before_last al (f, u) among.0 (λ e. past among.0 (length al) e (slice_get_within al among.0 (f, t) among.1)) ∙ among.1

-- ---- ask
module _ {V : Type 0} (So : ℕ → Origin → ℕ → Target → Option ℕ → V → Type 0) where
  -- what is so by the table is so by the pass
  pub so_by : (s : Sight) (p : Facts) (f : ℕ) (t : Target) (z : Option ℕ) (v : V) → Tells s p → So (length s.start) s.origin f t z v → So p.base p.origin f t z v
  so_by s p f t z v k so = subst (λ (x : ℕ × Origin). So x.0 x.1 f t z v) (λ i. (sym k.base i, sym k.origin i)) so

  pub so_of : (s : Sight) (p : Facts) (f : ℕ) (t : Target) (z : Option ℕ) (v : V) → Tells s p → So p.base p.origin f t z v → So (length s.start) s.origin f t z v
  so_of s p f t z v k so = subst (λ (x : ℕ × Origin). So x.0 x.1 f t z v) (λ i. (k.base i, k.origin i)) so

  pub hit_says : (s : Sight) (p : Facts) (f : ℕ) (k : Key) (v : V) → Tells s p → IsKeptFor f k s → HasKept (So (length s.start) s.origin f) f s v → Hits (So p.base p.origin) f k v p (hit_pass k p)
  hit_says s p f k v tells kept has =
      let same = one_flight (after s.journal) f has.0 kept.1.0 has.1 kept.1.1 in
      record {
        target = has.0.target;
        keyed = ap (λ (x : Flight). x.target.key) same ∙ ap (λ (t : Target). t.key) kept.1.3 ∙ kept.2;
        size = has.2;
        so = so_by s p f has.0.target (Some has.2) v tells has.4;
        is = refl;
      }

  -- ---- take
  pub ends_says : (s : Sight) (p : Facts) (f : ℕ) (v : V) → Tells s p → (o : IsOwed (after s.journal) p.query f) → (l : HasLanded (So (length s.start) s.origin f) f s v)
      → Ends (So p.base p.origin) f v p (taken_pass (wreck_of f l.2) (awaits_but f p.awaits) p)
  ends_says s p f v k o l =
      let w = k.knows.all_awaits f (inr o) in
      let a = k.knows.awaits f w.0 w.1 in
      let same : l.0.target ≡ w.0 = ap (λ (x : Flight). x.target) (one_flight (after s.journal) f l.0 a.flight l.1 a.there) ∙ a.target in
      record {
        target = w.0;
        removes = removes f w.0 p.awaits k.knows.awaits_once w.1;
        size = l.2;
        so = subst (λ t. So p.base p.origin f t l.2 v) same (so_by s p f l.0.target l.2 v k l.4);
        is = refl;
      }

-- a flight's wreck is the one of its size
pub wreck_is : (s : State) (f : ℕ) (x : Flight) (z : Option ℕ) → IsFlight s f x → x.phase ≡ landed z → is_wreck (slice_get s.flights f) ≡ not (is_some z)
wreck_is s f x z there phase = ap is_wreck there ∙ ap (λ y. is_wreck (Some (record x { phase = y }))) phase

pub wreck_list : (f : ℕ) (z : Option ℕ) → only_if (not (is_some z)) (f ∷ []) ≡ wreck_of f z
wreck_list f None = refl
wreck_list f (Some z) = refl

pub joins_says : (s : Sight) (p : Facts) (f : ℕ) (k : Key) → IsSightSound s → (w : FliesFor f k s) → Knows (s.journal ++ Joined p.query f ∷ []) (awaiting_pass f w.0 p) → Awaits f k p (awaiting_pass f w.0 p)
joins_says s p f k sound w knows = record {
  target = w.0;
  keyed = w.2;
  plain = subst IsPlain w.1.3 (flight_plain s f w.1.0 sound w.1.1);
  new = new_by f w.0 p.awaits knows.awaits_once;
  is = refl;
}

-- ---- take: a flight is awaited no more
pub parts_says : (p : Facts) (f : ℕ) (is_so : List (ℕ × Target) → Facts) (t : Target) → IsOnce (map (λ a. a.0) p.awaits) → Among (f, t) p.awaits → ((l : List (ℕ × Target)) → (is_so l).awaits ≡ l) → Parts f is_so p (is_so (awaits_but f p.awaits))
parts_says p f is_so t once among keeps = record {
  target = t;
  removes = subst (λ l. Removes (f, t) p.awaits l) (sym (keeps (awaits_but f p.awaits))) (removes f t p.awaits once among);
  is = ap is_so (sym (keeps (awaits_but f p.awaits)));
}

pub misses_says : (s : Sight) (p : Facts) (f : ℕ) → Tells s p → Parts f (λ rest. missed_pass f p) p (missing_pass f p) ⊎ (((t : Target) → ¬ Among (f, t) p.awaits) × (missing_pass f p ≡ p))
misses_says s p f k = split (is_awaited f p.awaits) refl
  where
    split : (b : Bool) → is_awaited f p.awaits ≡ b → Parts f (λ rest. missed_pass f p) p (if b then missed_pass f p else p) ⊎ (((t : Target) → ¬ Among (f, t) p.awaits) × ((if b then missed_pass f p else p) ≡ p))
    split true e = let w = awaited_by f p.awaits e in inl (record { target = w.0; removes = removes f w.0 p.awaits k.knows.awaits_once w.1; is = refl })
    split false e = inr ((λ t among. true≢false (sym (awaited_of f t p.awaits among) ∙ e)), refl)
