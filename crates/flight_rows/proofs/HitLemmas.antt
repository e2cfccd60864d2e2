-- A key is looked up, and a kept value is taken.
use Rattle.std.proofs.Common.{◌≡◌, ℕ, suc, ◌+◌, ◌≤◌, ◌==◌, ◌||◌, Bool, true, false, true≢false, if◌then◌else◌, List, [], ◌∷◌, ◌++◌, length, Option, Some, None, slice_get, refl, sym, ap, ◌∙◌, subst, ⊎_elim, arith, append-nil, Global}
use Rattle.std.specs.declared.sync.Arc.{Arc}
use Rattle.std.specs.Ordering.{nat_cmp}
use Rattle.std.specs.declared.cmp.Ordering.{Ordering}
use Rattle.std.specs.BTreeMap.{BTreeMap, get}
use Rattle.shard_cache.specs.Recency.{is_listed, without, only, total_of}
use Rattle.link_io.specs.Parcel.{Packed}
use Rattle.link_io.specs.declared.target.Key.{Key}
use Rattle.link_io.specs.declared.target.Target.{Target}
use Rattle.flight_journal.specs.declared.entry.Entry.{Entry}
use Rattle.flight_journal.specs.declared.entry.Entry.TheVariants.{Hit}
use Rattle.flight_journal.specs.State.{landed, Flight, State, is_flying, Flies, IsKept, IsOpen}
use Rattle.flight_journal.specs.Journal.{after, step, IsSettled, IsFreeKey}
use Rattle.flight_journal.proofs.PushLemmas.{after_push}
use Rattle.flight_journal.proofs.CarryLemmas.{one_flight}
use Rattle.flight_journal.proofs.LegalLemmas.{sized_after}
use Rattle.flight_rows.specs.declared.row.Row.{Row}
use Rattle.flight_rows.specs.declared.row.At.{At}
use Rattle.flight_rows.specs.declared.row.At.TheVariants.{Here, Away, Came}
use Rattle.flight_rows.specs.declared.asking.Found.TheVariants as found
use Rattle.flight_rows.specs.Rows.{AtFits, FlightFits, RowAt, RowsFit, KeysFit, Holds, Keeps, is_live}
use Rattle.flight_rows.specs.Places.{FindsKey}
use Rattle.flight_rows.proofs.StateLemmas.{none_plain}
use Rattle.flight_rows.proofs.EntryLemmas.{written, flies_if}
use Rattle.flight_rows.proofs.TakeLemmas.{none_some}

or_true : (b : Bool) → b || true ≡ true
or_true true = refl
or_true false = refl

-- ---- what a key leads to
pub key_free : (cmp : Key → Key → Ordering) (s : State) (keys : BTreeMap Key ℕ) (k : Key) → KeysFit cmp s keys → get cmp keys k ≡ None → IsFreeKey s k
key_free cmp s keys k fit none f t holds same =
    ⊎_elim
    (λ (w : Flies s f t). never w.0 w.1 w.3 (ap (λ p. is_flying p || is_listed f s.kept) w.2))
    (λ (w : IsKept s f t). never w.0 w.1 w.3 (ap (λ b. is_flying w.0.phase || b) w.2 ∙ or_true (is_flying w.0.phase)))
    holds
  where
    never : (x : Flight) → slice_get s.flights f ≡ Some x → x.target ≡ t → is_live (is_listed f s.kept) x ≡ true → ⊥
    never x known is live =
        let there = fit.listed f x known live in
        none_some f (sym none ∙ ap (λ n. get cmp keys n) (sym (ap (λ (u : Target). u.key) is ∙ same)) ∙ there)

pub key_found : (cmp : Key → Key → Ordering) (s : State) (keys : BTreeMap Key ℕ) (k : Key) (f : ℕ) → KeysFit cmp s keys → get cmp keys k ≡ Some f
    → (is_listed f s.kept ≡ true → FindsKey k s (found.Kept f)) × (is_listed f s.kept ≡ false → FindsKey k s (found.Flying f))
key_found cmp s keys k f fit there =
    let was = fit.found k f there in (
      λ listed. (was.0.target, (was.0, was.1, listed, refl), was.2),
      λ unlisted. (was.0.target, (was.0, was.1, flies_if was.0.phase (flies (is_flying was.0.phase) (is_listed f s.kept) was.3 unlisted), refl), was.2),
    )
  where
    flies : (a b : Bool) → a || b ≡ true → b ≡ false → a ≡ true
    flies true b h k = refl
    flies false b h k = absurd (true≢false (sym h ∙ k))

-- whether a row is kept, where there is one
abbrev pub row_kept : {L V : Type 0} → Option (Row L V) → Bool
row_kept None = false
row_kept (Some r) = r.kept

module _ {L V : Type 0} (Aimed : ℕ → Target → Packed L → Type 0) (Came_so : ℕ → Target → Option ℕ → V → Type 0) where
  pub kept_row : (s : State) (rows : BTreeMap ℕ (Row L V)) (f : ℕ) (o : Option (Row L V)) → RowsFit Aimed Came_so s rows → get nat_cmp rows f ≡ o → row_kept o ≡ is_listed f s.kept
  kept_row s rows f o fit is = let all = fit f in split (slice_get s.flights f) o (rw is at all)
    where
      split : (x : Option Flight) (r : Option (Row L V)) → RowAt Aimed Came_so f x (is_listed f s.kept) r → row_kept r ≡ is_listed f s.kept
      split None None h = sym h
      split None (Some r) h = absurd h
      split (Some x) None h = sym h.2
      split (Some x) (Some r) h = h.kept_so

-- ---- one moves to the front
listed_middle : (g : ℕ) (p : ℕ × ℕ) (a b : List (ℕ × ℕ)) → is_listed g (a ++ p ∷ b) ≡ (if p.0 == g then true else is_listed g (a ++ b))
listed_middle g p [] b = refl
listed_middle g p (x ∷ a) b = split (x.0 == g) (p.0 == g) (listed_middle g p a b)
  where
    split : (c d : Bool) → is_listed g (a ++ p ∷ b) ≡ (if d then true else is_listed g (a ++ b)) → (if c then true else is_listed g (a ++ p ∷ b)) ≡ (if d then true else (if c then true else is_listed g (a ++ b)))
    split true true h = refl
    split true false h = refl
    split false d h = h

pub listed_same : (g f : ℕ) (ps : List (ℕ × ℕ)) → is_listed g (only f ps ++ without f ps) ≡ is_listed g ps
listed_same g f [] = refl
listed_same g f (p ∷ ps) = split (p.0 == f) (listed_same g f ps)
  where
    split : (b : Bool) → is_listed g (only f ps ++ without f ps) ≡ is_listed g ps → is_listed g ((if b then p ∷ only f ps else only f ps) ++ (if b then without f ps else p ∷ without f ps)) ≡ (if p.0 == g then true else is_listed g ps)
    split true h = ap (λ c. if p.0 == g then true else c) h
    split false h = listed_middle g p (only f ps) (without f ps) ∙ ap (λ c. if p.0 == g then true else c) h

total_middle : (p : ℕ × ℕ) (a b : List (ℕ × ℕ)) → total_of (a ++ p ∷ b) ≡ p.1 + total_of (a ++ b)
total_middle p [] b = refl
total_middle p (x ∷ a) b = let h = total_middle p a b in omega arith

pub total_same : (f : ℕ) (ps : List (ℕ × ℕ)) → total_of (only f ps ++ without f ps) ≡ total_of ps
total_same f [] = refl
total_same f (p ∷ ps) = split (p.0 == f) (total_same f ps)
  where
    split : (b : Bool) → total_of (only f ps ++ without f ps) ≡ total_of ps → total_of ((if b then p ∷ only f ps else only f ps) ++ (if b then without f ps else p ∷ without f ps)) ≡ p.1 + total_of ps
    split true h = ap (λ n. p.1 + n) h
    split false h = total_middle p (only f ps) (without f ps) ∙ ap (λ n. p.1 + n) h

length_middle : (p : ℕ × ℕ) (a b : List (ℕ × ℕ)) → length (a ++ p ∷ b) ≡ suc (length (a ++ b))
length_middle p [] b = refl
length_middle p (x ∷ a) b = ap suc (length_middle p a b)

length_same : (f : ℕ) (ps : List (ℕ × ℕ)) → length (only f ps ++ without f ps) ≡ length ps
length_same f [] = refl
length_same f (p ∷ ps) = split (p.0 == f) (length_same f ps)
  where
    split : (b : Bool) → length (only f ps ++ without f ps) ≡ length ps → length ((if b then p ∷ only f ps else only f ps) ++ (if b then without f ps else p ∷ without f ps)) ≡ suc (length ps)
    split true h = ap suc h
    split false h = length_middle p (only f ps) (without f ps) ∙ ap suc h

module _ {L V : Type 0} (Aimed : ℕ → Target → Packed L → Type 0) (Came_so : ℕ → Target → Option ℕ → V → Type 0) (cmp : Key → Key → Ordering) (keep : ℕ) (start dialed : List Target) (journal : List Entry) where
  -- a kept value is taken, and its flight is the most recent
  pub hits : (room room' : ℕ) (rows : BTreeMap ℕ (Row L V)) (keys : BTreeMap Key ℕ) (order order' : List (ℕ × ℕ)) (recent opened begun owed f q : ℕ) (t : Target)
      → Keeps Aimed Came_so cmp keep start dialed journal room rows keys order recent opened begun owed
      → IsSettled keep (after journal) → IsOpen (after journal) q → IsKept (after journal) f t
      → order' ≡ only f order ++ without f order
      → length journal + (owed + 1) ≤ room'
      → Keeps Aimed Came_so cmp keep start dialed (journal ++ Hit q f ∷ []) room' rows keys order' recent opened begun owed
      × IsSettled keep (after (journal ++ Hit q f ∷ []))
  hits room room' rows keys order order' recent opened begun owed f q t keeps settled alive kept moved space =
      let h = keeps.holds in
      let s = after journal in
      let e = Hit q f in
      let s' = step s e in
      let same : (g : ℕ) → is_listed g s'.kept ≡ is_listed g s.kept = λ g. listed_same g f s.kept in
      let count = length_same f s.kept in
      let all : Holds Aimed Came_so cmp s' (length journal + 1) room' rows keys order' recent opened begun owed = record {
        rows_fit = λ g. rw (same g) (h.rows_fit g);
        keys_fit = record {
          found = λ k g there. let was = h.keys_fit.found k g there in (was.0, was.1, was.2, ap (λ b. is_live b was.0) (same g) ∙ was.3);
          listed = λ g x known live. h.keys_fit.listed g x known (ap (λ b. is_live b x) (sym (same g)) ∙ live);
        };
        kept_so = moved ∙ ap (λ l. only f l ++ without f l) h.kept_so;
        recent_so = h.recent_so;
        opened_so = h.opened_so;
        begun_so = h.begun_so;
        few = let few = h.few in omega arith;
        owed_so = let so = h.owed_so in omega arith;
        fits = omega arith;
      } in (
        written Aimed Came_so cmp keep start dialed journal e room' rows keys order' recent opened begun owed dialed keeps.legal keeps.dialed_so keeps.plain (sym (append-nil _)) none_plain (settled, alive, (t, kept)) all,
        rw (after_push journal e) (record { within = subst (λ n. n ≤ keep) (sym (total_same f s.kept)) settled.within; awaited = settled.awaited }),
      )

  -- a kept flight has a row with its value
  pub kept_value : (room : ℕ) (rows : BTreeMap ℕ (Row L V)) (keys : BTreeMap Key ℕ) (order : List (ℕ × ℕ)) (recent opened begun owed f : ℕ) (t : Target)
      → Keeps Aimed Came_so cmp keep start dialed journal room rows keys order recent opened begun owed
      → (kept : IsKept (after journal) f t)
      → (r : Row L V) × (get nat_cmp rows f ≡ Some r) × ((v : Arc V Global) × (r.at ≡ Came v) × ((size : Option ℕ) × (kept.0.phase ≡ landed size) × Came_so f kept.0.target size v.value))
  kept_value room rows keys order recent opened begun owed f t keeps kept =
      let all = keeps.holds.rows_fit f in
      split (get nat_cmp rows f) refl (rw (kept.1, kept.2) at all)
    where
      at_came : (a : At L V) → AtFits Aimed Came_so f kept.0 true a → (v : Arc V Global) × (a ≡ Came v) × ((size : Option ℕ) × (kept.0.phase ≡ landed size) × Came_so f kept.0.target size v.value)
      at_came (Here p) fits = absurd (true≢false fits.1)
      at_came (Away p) fits = absurd (true≢false fits.1)
      at_came (Came v) fits = (v, refl, (fits.0, fits.1, fits.2))

      split : (o : Option (Row L V)) → get nat_cmp rows f ≡ o → FlightFits Aimed Came_so f kept.0 true o
          → (r : Row L V) × (get nat_cmp rows f ≡ Some r) × ((v : Arc V Global) × (r.at ≡ Came v) × ((size : Option ℕ) × (kept.0.phase ≡ landed size) × Came_so f kept.0.target size v.value))
      split None e fits = absurd (true≢false fits.2)
      split (Some r) e fits = (r, e, at_came r.at fits.at_so)

  -- the same with the size of the value
  pub kept_comes : (room : ℕ) (rows : BTreeMap ℕ (Row L V)) (keys : BTreeMap Key ℕ) (order : List (ℕ × ℕ)) (recent opened begun owed f : ℕ) (t : Target)
      → Keeps Aimed Came_so cmp keep start dialed journal room rows keys order recent opened begun owed
      → (kept : IsKept (after journal) f t)
      → (r : Row L V) × (get nat_cmp rows f ≡ Some r) × ((v : Arc V Global) × (r.at ≡ Came v) × ((size : ℕ) × (kept.0.phase ≡ landed (Some size)) × Came_so f kept.0.target (Some size) v.value))
  kept_comes room rows keys order recent opened begun owed f t keeps kept =
      let row = kept_value room rows keys order recent opened begun owed f t keeps kept in
      let came = row.2.2 in
      let z = sized_after keep f journal keeps.legal kept.2 in
      let same : z.1 ≡ kept.0 = one_flight (after journal) f z.1 kept.0 z.2 kept.1 in
      let phase : kept.0.phase ≡ landed (Some z.0) = ap (λ (x : Flight). x.phase) (sym same) ∙ z.3 in
      let size : came.0 ≡ Some z.0 = one_size came.0 (Some z.0) (sym came.1 ∙ phase) in
      (row.0, row.1, (row.2.0, row.2.1, (z.0, phase, subst (λ o. Came_so f kept.0.target o row.2.0.value) size came.2)))
    where
      one_size : (a b : Option ℕ) → landed a ≡ landed b → a ≡ b
      one_size a b e = cc
