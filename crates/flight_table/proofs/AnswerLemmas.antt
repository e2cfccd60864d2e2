-- What the answers of `ask` and `take` mean for what a pass says.
use Rattle.std.proofs.Common.{◌≡◌, ◌⊎◌, ℕ, Bool, true, false, not, if◌then◌else◌, List, [], ◌∷◌, ◌++◌, Option, Some, None, length, slice_get, refl, sym, ap, ◌∙◌, subst, inl, inr, ⊎_elim}
use Rattle.std.specs.Option.{is_some, option_map}
use Rattle.link_io.specs.Origin.{Origin}
use Rattle.link_io.specs.Parcel.{Packed}
use Rattle.link_io.specs.Target.{IsPlain}
use Rattle.link_io.specs.declared.target.Key.{Key}
use Rattle.link_io.specs.declared.target.Target.{Target}
use Rattle.flight_journal.specs.declared.entry.Entry.{Entry}
use Rattle.flight_journal.specs.declared.entry.Entry.TheVariants.{Began, Joined, Hit}
use Rattle.flight_journal.specs.State.{Flight, State, flying, joined}
use Rattle.flight_journal.specs.Journal.{after, step}
use Rattle.flight_journal.specs.Count.{Among, only_if, is_wreck}
use Rattle.flight_journal.proofs.PushLemmas.{after_push}
use Rattle.flight_journal.proofs.ListLemmas.{get_last, get_changed}
use Rattle.flight_journal.proofs.CarryLemmas.{one_flight}
use Rattle.flight_rows.specs.declared.asking.Asked.{Asked}
use Rattle.flight_rows.specs.declared.asking.Asked.TheVariants as asked
use Rattle.flight_rows.specs.declared.table.Drive.{Drive}
use Rattle.flight_rows.specs.declared.table.Drive.TheVariants as drive
use Rattle.flight_rows.specs.Sight.{Sight, IsSightSound}
use Rattle.flight_rows.specs.Serves.{Writes, Asks, Serves}
use Rattle.flight_table.specs.declared.saying.Change.{Change}
use Rattle.flight_table.specs.Facts.{Facts, hit_pass, awaiting_pass, taken_pass, missed_pass, missing_pass, awaits_but, is_awaited, wreck_of}
use Rattle.flight_table.specs.Saying.{said_by, asked_change, entered_in, taken_change, target_of, target_at}
use Rattle.flight_table.specs.Tells.{Tells}
use Rattle.flight_table.specs.Follows.{Follows, AskSays, TakeSays, Awaits, Ends}
use Rattle.flight_table.proofs.AwaitLemmas.{last_or_before}
use Rattle.flight_table.proofs.AwaitsLemmas.{but_only, awaited_by}
use Rattle.flight_table.proofs.PassLemmas.{hit_follows, joined_follows, begun_follows, holding_follows, taken_follows, missed_follows, same_follows}
use Rattle.flight_table.proofs.SaysLemmas.{target_is, flight_plain, new_by, hit_says, ends_says, wreck_is, wreck_list, misses_says}

-- the target of a flight behind an entry
target_behind : (s t : Sight) (e : Entry) (f : ℕ) → Writes (e ∷ []) s t → target_at (after t.journal) f ≡ target_at (step (after s.journal) e) f
target_behind s t e f w = ap (λ (js : List Entry). target_at (after js) f) w.journal ∙ ap (λ (x : State). target_at x f) (after_push s.journal e)

-- ---- ask
pub record AskAll {V : Type 0} (So : ℕ → Origin → ℕ → Target → Option ℕ → V → Type 0) (s t : Sight) (k : Key) (p : Facts) (a : Asked V) (r : Facts) : Type 0 where
  pub follows : Follows s t p r
  pub says : AskSays (So p.base p.origin) k p r a

module _ {V : Type 0} (So : ℕ → Origin → ℕ → Target → Option ℕ → V → Type 0) where
  as_said : (s t : Sight) (k : Key) (p : Facts) (a : Asked V) (r r' : Facts) → r' ≡ r → AskAll So s t k p a r → AskAll So s t k p a r'
  as_said s t k p a r r' same all = subst (AskAll So s t k p a) (sym same) all

  awaits_all : (s t : Sight) (k : Key) (p : Facts) (f : ℕ) (u : Target) → u.key ≡ k → IsPlain u → Follows s t p (awaiting_pass f u p) → Awaits f k p (awaiting_pass f u p)
  awaits_all s t k p f u keyed plain follows = record { target = u; keyed = keyed; plain = plain; new = new_by f u p.awaits follows.now.knows.awaits_once; is = refl }

  pub ask_all : (s t : Sight) (u : Target) (p : Facts) (a : Asked V) → IsPlain u → IsSightSound s → IsSightSound t → Tells s p → Asks (So (length s.start) s.origin) p.query u s t a → AskAll So s t u.key p a (said_by (asked_change a) t p)
  ask_all s t u p (asked.Kept f v) plain sound sound' k w =
      let kept = w.2 in
      let here : target_at (after t.journal) f ≡ kept.0 = target_behind s t (Hit p.query f) f w.0 ∙ target_is (after s.journal) f kept.1.0 kept.1.1 ∙ kept.1.3 in
      as_said s t u.key p (asked.Kept f v) (hit_pass u.key p) (hit_pass (target_at (after t.journal) f).key p) (ap (λ (x : Target). hit_pass x.key p) here ∙ ap (λ x. hit_pass x p) kept.2)
      (record {
        follows = subst (λ x. Follows s t p (hit_pass x p)) kept.2 (hit_follows s t p f kept.0 w.0 w.1 sound' kept.1 k);
        says = hit_says So s p f u.key v.value k kept w.3;
      })
  ask_all s t u p (asked.Joined f) plain sound sound' k w =
      let flies = w.2 in
      let there : slice_get (step (after s.journal) (Joined p.query f)).flights f ≡ Some (joined p.query flies.1.0) = get_changed f (joined p.query) (after s.journal).flights ∙ ap (option_map (joined p.query)) flies.1.1 in
      let here : target_at (after t.journal) f ≡ flies.0 = target_behind s t (Joined p.query f) f w.0 ∙ ap target_of there ∙ flies.1.3 in
      let flat = subst IsPlain flies.1.3 (flight_plain s f flies.1.0 sound flies.1.1) in
      let follows = joined_follows s t p f flies.0 w.0 w.1 sound' flies.1 flat k in
      as_said s t u.key p (asked.Joined f) (awaiting_pass f flies.0 p) (awaiting_pass f (target_at (after t.journal) f) p) (ap (λ (x : Target). awaiting_pass f x p) here)
      (record { follows = follows; says = awaits_all s t u.key p f flies.0 flies.2 flat follows })
  ask_all s t u p (asked.Began f) plain sound sound' k w =
      let there : slice_get (step (after s.journal) (Began p.query f u)).flights f ≡ Some (record { target = u; phase = flying; queries = p.query ∷ [] }) = ap (slice_get ((after s.journal).flights ++ record { target = u; phase = flying; queries = p.query ∷ [] } ∷ [])) w.3 ∙ get_last (after s.journal).flights _ in
      let here : target_at (after t.journal) f ≡ u = target_behind s t (Began p.query f u) f w.0 ∙ ap target_of there in
      let follows = begun_follows s t p f u w.0 w.1 sound' plain k in
      as_said s t u.key p (asked.Began f) (awaiting_pass f u p) (awaiting_pass f (target_at (after t.journal) f) p) (ap (λ (x : Target). awaiting_pass f x p) here)
      (record { follows = follows; says = awaits_all s t u.key p f u refl plain follows })

-- the flights that are awaited behind it
pub ask_covers : {V : Type 0} (t : Sight) (p : Facts) (a : Asked V) (g : ℕ) (u : Target) → Among (g, u) (said_by (asked_change a) t p).awaits → Among (g, u) p.awaits ⊎ (entered_in a ≡ Some g)
ask_covers t p (asked.Kept f v) g u among = inl among
ask_covers t p (asked.Joined f) g u among = ⊎_elim (λ b. inl b) (λ (e : (f, target_at (after t.journal) f) ≡ (g, u)). inr (ap (λ (z : ℕ × Target). Some z.0) e)) (last_or_before (f, target_at (after t.journal) f) (g, u) p.awaits among)
ask_covers t p (asked.Began f) g u among = ⊎_elim (λ b. inl b) (λ (e : (f, target_at (after t.journal) f) ≡ (g, u)). inr (ap (λ (z : ℕ × Target). Some z.0) e)) (last_or_before (f, target_at (after t.journal) f) (g, u) p.awaits among)

-- ---- take
pub record TakeAll {L V : Type 0} (Aimed : ℕ → Origin → ℕ → Target → Packed L → Type 0) (So : ℕ → Origin → ℕ → Target → Option ℕ → V → Type 0) (s t : Sight) (f : ℕ) (p : Facts) (d : Drive L V) (r : Facts) : Type 0 where
  pub follows : Follows s t p r
  pub says : TakeSays (Aimed p.base p.origin) (So p.base p.origin) f p r d
  pub less : (g : ℕ) (u : Target) → Among (g, u) r.awaits → Among (g, u) p.awaits

-- what a pass says behind a change, if there is one
abbrev pub changed_by : Option Change → Sight → Facts → Facts
changed_by None t p = p
changed_by (Some c) t p = said_by c t p

module _ {L V : Type 0} (Aimed : ℕ → Origin → ℕ → Target → Packed L → Type 0) (So : ℕ → Origin → ℕ → Target → Option ℕ → V → Type 0) (size : V → Option ℕ) where
  pub take_all : (s t : Sight) (p : Facts) (f : ℕ) (d : Drive L V) → ((b : ℕ) (o : Origin) (g : ℕ) (u : Target) (z : Option ℕ) (v : V) → So b o g u z v → size v ≡ z) → IsSightSound s → IsSightSound t → Tells s p → p.hand ≡ None
      → Serves (Aimed (length s.start) s.origin f) (So (length s.start) s.origin f) p.query f s t d → TakeAll Aimed So s t f p d (changed_by (taken_change size f d) t p)
  take_all s t p f (drive.Parcel parcel) sized sound sound' k idle w =
      let flies = w.3 in
      let wait = w.2.0 in
      let there = k.knows.all_awaits f (inl wait) in
      let a = k.knows.awaits f there.0 there.1 in
      let same : flies.0 ≡ there.0 = sym flies.1.3 ∙ ap (λ (x : Flight). x.target) (one_flight (after s.journal) f flies.1.0 a.flight flies.1.1 a.there) ∙ a.target in
      let aimed : Aimed p.base p.origin f there.0 parcel = subst (λ u. Aimed p.base p.origin f u parcel) same (subst (λ (x : ℕ × Origin). Aimed x.0 x.1 f flies.0 parcel) (λ i. (sym k.base i, sym k.origin i)) flies.2) in
      record { follows = holding_follows s t p f w.0 w.1 w.2.1 sound' k idle; says = ((there.0, there.1, a.plain, aimed), refl); less = λ g u among. among }
  take_all s t p f drive.Busy sized sound sound' k idle w =
      record { follows = subst (λ x. Follows s x p p) (sym w.0) (same_follows s p k); says = refl; less = λ g u among. among }
  take_all s t p f (drive.Ended v) sized sound sound' k idle w =
      let landed_so = w.3 in
      let z : size v.value ≡ landed_so.2 = sized (length s.start) s.origin f landed_so.0.target landed_so.2 v.value landed_so.4 in
      let wreck : is_wreck (slice_get (after s.journal).flights f) ≡ not (is_some (size v.value)) = wreck_is (after s.journal) f landed_so.0 landed_so.2 landed_so.1 landed_so.3 ∙ ap (λ y. not (is_some y)) (sym z) in
      let same : only_if (not (is_some (size v.value))) (f ∷ []) ≡ wreck_of f landed_so.2 = ap (λ y. only_if (not (is_some y)) (f ∷ [])) z ∙ wreck_list f landed_so.2 in
      record {
        follows = taken_follows s t p f (not (is_some (size v.value))) w.0 w.1 sound' wreck k;
        says = subst (λ l. Ends (So p.base p.origin) f v.value p (taken_pass l (awaits_but f p.awaits) p)) (sym same) (ends_says So s p f v.value k w.2 landed_so);
        less = λ g u among. (but_only f g u p.awaits among).0;
      }
  take_all s t p f drive.Again sized sound sound' k idle w =
      record { follows = subst (λ x. Follows s x p (missing_pass f p)) (sym w.0) (misses (is_awaited f p.awaits) refl); says = misses_says s p f k; less = λ g u among. fewer (is_awaited f p.awaits) g u among }
    where
      misses : (b : Bool) → is_awaited f p.awaits ≡ b → Follows s s p (if b then missed_pass f p else p)
      misses true e = let there = awaited_by f p.awaits e in missed_follows s p f there.0 there.1 w.1.0 w.1.1 k
      misses false e = same_follows s p k

      fewer : (b : Bool) (g : ℕ) (u : Target) → Among (g, u) (if b then missed_pass f p else p).awaits → Among (g, u) p.awaits
      fewer true g u among = (but_only f g u p.awaits among).0
      fewer false g u among = among
  take_all s t p f drive.Memory sized sound sound' k idle w =
      record { follows = subst (λ x. Follows s x p p) (sym w.0) (same_follows s p k); says = refl; less = λ g u among. among }
