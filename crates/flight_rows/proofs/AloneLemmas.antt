-- Flights that nobody awaits behind a query that left.
use Rattle.std.proofs.Common.{◌≡◌, ◌≢◌, ◌⊎◌, ℕ, ◌+◌, ◌<◌, ◌≤◌, Bool, true, false, true≢false, List, [], ◌∷◌, ◌++◌, length, Option, Some, None, slice_get, slice_index, refl, sym, ap, ◌∙◌, subst, ⊎_elim, inl, inr, arith}
use Rattle.std.specs.List.Sorted.{IsStrictlyIncreasing}
use Rattle.std.specs.Ordering.{nat_cmp}
use Rattle.std.specs.Option.{option_map}
use Rattle.std.specs.BTreeMap.{BTreeMap, get}
use Rattle.std.proofs.lemmas.Bool.{cases_eq}
use Rattle.shard_cache.specs.Recency.{is_listed}
use Rattle.link_io.specs.Parcel.{Packed}
use Rattle.link_io.specs.declared.target.Target.{Target}
use Rattle.flight_journal.specs.declared.entry.Entry.{Entry}
use Rattle.flight_journal.specs.declared.entry.Entry.TheVariants.{Cancelled, Closed, Abandoned}
use Rattle.flight_journal.specs.State.{Phase, flying, landed, gone, Flight, State, IsFlight, is_one_of, all_but, is_flying, is_landed, WaitsIn, IsOwed, IsOpen, parted, ended, change, left_by}
use Rattle.flight_journal.specs.Journal.{step, Allowed, IsSettled, AreAwaited, IsAlone, IsLeastAlone}
use Rattle.flight_journal.specs.Count.{begun_in}
use Rattle.flight_journal.proofs.ListLemmas.{get_changed, get_unchanged, get_map}
use Rattle.flight_rows.specs.declared.row.Row.{Row}
use Rattle.flight_rows.specs.declared.row.At.{At}
use Rattle.flight_rows.specs.declared.row.At.TheVariants.{Here, Away, Came}
use Rattle.flight_rows.specs.Rows.{AtFits, FlightFits, RowsFit, hand_of, hands_of}
use Rattle.flight_rows.specs.Changes.{IsLone, Parts}
use Rattle.flight_rows.specs.Sight.{hand_in}
use Rattle.flight_rows.specs.Serves.{IsLeaving, abandonments}
use Rattle.flight_rows.proofs.TakeLemmas.{flight_of, hand_row}
use Rattle.flight_rows.proofs.EachLemmas.{all_but_none, rises, one_at, parts_nothing, stands_or_not}

-- ---- a flight that nobody awaits, and its row
module _ {L V : Type 0} (Aimed : ℕ → Target → Packed L → Type 0) (Came_so : ℕ → Target → Option ℕ → V → Type 0) where
  pub alone_row : (s : State) (rows : BTreeMap ℕ (Row L V)) (f : ℕ) → RowsFit Aimed Came_so s rows → IsAlone s f → (r : Row L V) × (get nat_cmp rows f ≡ Some r) × IsLone r
  alone_row s rows f fit alone = let all = fit f in split (get nat_cmp rows f) refl (rw alone.1 at all)
    where
      at_here : (k : Bool) (a : At L V) → AtFits Aimed Came_so f alone.0 k a → (p : Packed L) × (a ≡ Here p)
      at_here k (Here p) fits = (p, refl)
      at_here k (Away q) fits = absurd (true≢false (sym fits.2 ∙ ap (is_one_of q) alone.3))
      at_here k (Came v) fits = let bad : flying ≡ landed fits.0 = sym alone.2 ∙ fits.1 in absurd (flies_not (landed fits.0) refl bad)
        where
          flies_not : (p : Phase) → p ≡ p → flying ≡ landed fits.0 → ⊥
          flies_not p e h = cc

      split : (o : Option (Row L V)) → get nat_cmp rows f ≡ o → FlightFits Aimed Came_so f alone.0 (is_listed f s.kept) o → (r : Row L V) × (get nat_cmp rows f ≡ Some r) × IsLone r
      split None e fits = absurd (true≢false (sym (ap is_flying alone.2) ∙ fits.0))
      split (Some r) e fits = (r, e, (fits.queries ∙ alone.3, at_here (is_listed f s.kept) r.at fits.at_so))

  pub row_alone : (s : State) (rows : BTreeMap ℕ (Row L V)) (f : ℕ) (r : Row L V) → RowsFit Aimed Came_so s rows → get nat_cmp rows f ≡ Some r → IsLone r → IsAlone s f
  row_alone s rows f r fit known lone =
      let x = flight_of Aimed Came_so s rows f r fit known in
      (x.0, x.1, flies x.0 (is_listed f s.kept) r.at lone.1.0 lone.1.1 x.2.at_so, sym x.2.queries ∙ lone.0)
    where
      flies : (y : Flight) (k : Bool) (a : At L V) (p : Packed L) → a ≡ Here p → AtFits Aimed Came_so f y k a → y.phase ≡ flying
      flies y k a p is fits = let h = rw is at fits in h.0

-- ---- which flights nobody awaits any more
-- a flight that nobody awaits behind a query that left was awaited by it
pub alone_was_awaited : (q f : ℕ) (s : State) → AreAwaited s → IsAlone (left_by q s) f → WaitsIn s q f
alone_was_awaited q f s awaited alone = split (slice_get s.flights f) refl (sym (get_map (parted q) s.flights f) ∙ alone.1)
  where
    split : (o : Option Flight) → slice_get s.flights f ≡ o → option_map (parted q) o ≡ Some alone.0 → WaitsIn s q f
    split None e m = cc
    split (Some x) e m =
        let same : parted q x ≡ alone.0 = cc in
        let flies : x.phase ≡ flying = ap (λ (y : Flight). y.phase) same ∙ alone.2 in
        let none : all_but q x.queries ≡ [] = ap (λ (y : Flight). y.queries) same ∙ alone.3 in
        (x, e, flies, one (is_one_of q x.queries) refl none (awaited f x e flies))
      where
        one : (b : Bool) → is_one_of q x.queries ≡ b → all_but q x.queries ≡ [] → x.queries ≢ [] → is_one_of q x.queries ≡ true
        one true i n some = i
        one false i n some = absurd (some (sym (all_but_none q x.queries i) ∙ n))

-- a flight that nobody awaits behind an abandoned one is another, and nobody awaited it before
pub alone_before : (f g : ℕ) (s : State) → IsAlone (step s (Abandoned f)) g → (g ≢ f) × IsAlone s g
alone_before f g s alone = (apart, (alone.0, sym (get_unchanged f g ended s.flights apart) ∙ alone.1, alone.2, alone.3))
  where
    never : (o : Option Flight) → option_map ended o ≡ Some alone.0 → ⊥
    never None m = cc
    never (Some x) m = let same : ended x ≡ alone.0 = cc in let bad : gone ≡ flying = ap (λ (y : Flight). y.phase) same ∙ alone.2 in cc

    apart : g ≢ f
    apart e = never (slice_get s.flights f) (sym (get_changed f ended s.flights) ∙ ap (λ n. slice_get (change f ended s.flights) n) (sym e) ∙ alone.1)

-- the flights that nobody awaits are among those from a place on
abbrev pub AloneFrom : State → List ℕ → ℕ → Type 0
AloneFrom s flights i = (g : ℕ) → IsAlone s g → (n : ℕ) × (i ≤ n) × (n < length flights) × (slice_index flights n ≡ g)

-- the one of this place is the least
pub least_alone : (s : State) (flights : List ℕ) (i : ℕ) → IsStrictlyIncreasing flights → i < length flights → AloneFrom s flights i → IsAlone s (slice_index flights i) → IsLeastAlone s (slice_index flights i)
least_alone s flights i rising below all alone = (alone, λ g x less known flies none. before g x less (all g (x, known, flies, none)))
  where
    between : (a b : ℕ) → a ≤ b → b ≢ a → a < b
    between a b h ne = omega arith

    not_less : (a b : ℕ) → a < b → b ≡ a → ⊥
    not_less a b h e = let bad : ⊥ = omega arith in bad

    not_more : (a b c : ℕ) → a < b → b < c → c ≡ a → ⊥
    not_more a b c h k e = let bad : ⊥ = omega arith in bad

    before : (g : ℕ) (x : Flight) → g < slice_index flights i → (n : ℕ) × (i ≤ n) × (n < length flights) × (slice_index flights n ≡ g) → ⊥
    before g x less w =
        ⊎_elim
        (λ (e : w.0 ≡ i). let same : slice_index flights i ≡ g = ap (slice_index flights) (sym e) ∙ w.3 in not_less g (slice_index flights i) less same)
        (λ (ne : w.0 ≢ i). let more = rises flights i w.0 rising (between i w.0 w.1 ne) w.2 in not_more g (slice_index flights i) (slice_index flights w.0) less more w.3)
        (cases_eq w.0 i)

-- behind a place whose flight is awaited, or gone, the others are further on
pub alone_further : (s s' : State) (flights : List ℕ) (i : ℕ) → AloneFrom s flights i → ((g : ℕ) → IsAlone s' g → (g ≢ slice_index flights i) × IsAlone s g) → AloneFrom s' flights (i + 1)
alone_further s s' flights i all apart g alone =
    let p = apart g alone in
    let w = all g p.1 in
    (w.0, further w.0 w.1 (λ e. p.0 (sym w.3 ∙ ap (slice_index flights) e)), w.2, w.3)
  where
    further : (n : ℕ) → i ≤ n → n ≢ i → i + 1 ≤ n
    further n h ne = omega arith

-- none is alone behind the last place
pub none_alone : (s : State) (flights : List ℕ) (i : ℕ) → length flights ≤ i → AloneFrom s flights i → AreAwaited s
none_alone s flights i past all f x known flies none = let w = all f (x, known, flies, none) in never (length flights) i w.0 past w.1 w.2
  where
    never : (a b n : ℕ) → a ≤ b → b ≤ n → n < a → ⊥
    never a b n h k l = let bad : ⊥ = omega arith in bad

-- ---- the entry of a query that leaves
pub leaving_step : (q : ℕ) (s : State) (e : Entry) → IsLeaving q e → (step s e ≡ left_by q s) × (begun_in (e ∷ []) ≡ [])
leaving_step q s e is =
    ⊎_elim
    (λ (i : e ≡ Cancelled q). (ap (step s) i, ap (λ (x : Entry). begun_in (x ∷ [])) i))
    (λ (i : e ≡ Closed q). (ap (step s) i, ap (λ (x : Entry). begun_in (x ∷ [])) i))
    is

pub leaving_may : (budget q : ℕ) (s : State) (e : Entry) → IsLeaving q e → IsSettled budget s → IsOpen s q → Allowed budget s e
leaving_may budget q s e is settled alive =
    ⊎_elim
    (λ (i : e ≡ Cancelled q). subst (λ (x : Entry). Allowed budget s x) (sym i) (settled, alive))
    (λ (i : e ≡ Closed q). subst (λ (x : Entry). Allowed budget s x) (sym i) (settled, alive))
    is

pub abandonments_push : (fs : List ℕ) (f : ℕ) → abandonments (fs ++ f ∷ []) ≡ abandonments fs ++ Abandoned f ∷ []
abandonments_push [] f = refl
abandonments_push (g ∷ fs) f = ap (λ l. Abandoned g ∷ l) (abandonments_push fs f)

pub none_begun_by_abandoning : (fs : List ℕ) → begun_in (abandonments fs) ≡ []
none_begun_by_abandoning [] = refl
none_begun_by_abandoning (f ∷ fs) = none_begun_by_abandoning fs

-- ---- rows behind a query that left
module _ {L V : Type 0} (Aimed : ℕ → Target → Packed L → Type 0) (Came_so : ℕ → Target → Option ℕ → V → Type 0) where
  -- a row of a flight that the query does not await does not name it
  unnamed : (q : ℕ) (s : State) (rows : BTreeMap ℕ (Row L V)) (f : ℕ) (r : Row L V) → RowsFit Aimed Came_so s rows → get nat_cmp rows f ≡ Some r → ¬ WaitsIn s q f → ¬ IsOwed s q f → is_one_of q r.queries.items ≡ false
  unnamed q s rows f r fit known waits owed =
      let x = flight_of Aimed Came_so s rows f r fit known in
      split x.0 x.1 (is_listed f s.kept) r.at x.2.at_so (is_one_of q r.queries.items) refl (ap (is_one_of q) (sym x.2.queries))
    where
      split : (y : Flight) → IsFlight s f y → (k : Bool) (a : At L V) → AtFits Aimed Came_so f y k a → (b : Bool) → is_one_of q r.queries.items ≡ b → is_one_of q y.queries ≡ is_one_of q r.queries.items → is_one_of q r.queries.items ≡ false
      split y there k a fits false i same = i
      split y there k (Here p) fits true i same = absurd (waits (y, there, fits.0, same ∙ i))
      split y there k (Away p) fits true i same = absurd (waits (y, there, fits.0, same ∙ i))
      split y there k (Came v) fits true i same = absurd (owed (y, there, ap is_landed fits.1, same ∙ i))

  -- each row is parted from, where those given are all that the query awaits
  pub parts_all : (q : ℕ) (s : State) (flights : List ℕ) (rows rows' : BTreeMap ℕ (Row L V)) → RowsFit Aimed Came_so s rows
      → ((f : ℕ) → WaitsIn s q f ⊎ IsOwed s q f → is_one_of f flights ≡ true)
      → ((n : ℕ) → n < length flights → Parts q (get nat_cmp rows (slice_index flights n)) (get nat_cmp rows' (slice_index flights n)))
      → ((g : ℕ) → ((n : ℕ) → n < length flights → slice_index flights n ≢ g) → get nat_cmp rows' g ≡ get nat_cmp rows g)
      → (f : ℕ) → Parts q (get nat_cmp rows f) (get nat_cmp rows' f)
  parts_all q s flights rows rows' fit awaited parted others f =
      ⊎_elim
      (λ (w : (n : ℕ) × (n < length flights) × (slice_index flights n ≡ f)). subst (λ g. Parts q (get nat_cmp rows g) (get nat_cmp rows' g)) w.2 (parted w.0 w.1))
      (λ (none : (n : ℕ) → n < length flights → slice_index flights n ≢ f).
      subst (λ (o : Option (Row L V)). Parts q (get nat_cmp rows f) o) (sym (others f none))
      (parts_nothing q (get nat_cmp rows f) (λ r known. unnamed q s rows f r fit known
      (λ w. let p = one_at f flights (awaited f (inl w)) in none p.0 p.1 p.2)
      (λ w. let p = one_at f flights (awaited f (inr w)) in none p.0 p.1 p.2))))
      (stands_or_not f flights)

-- no row's parcel is in a hand that is empty
pub no_row_away : {L V : Type 0} (q : ℕ) (rows : BTreeMap ℕ (Row L V)) → ((f : ℕ) → hand_in (hands_of rows.entries) f ≢ Some q) → (f : ℕ) (r : Row L V) → get nat_cmp rows f ≡ Some r → r.at ≢ Away q
no_row_away q rows idle f r known away = idle f (hand_row rows f r known ∙ ap hand_of away)

pub leaving_begun : (q : ℕ) (e : Entry) (fs : List ℕ) → IsLeaving q e → begun_in (e ∷ abandonments fs) ≡ []
leaving_begun q e fs is =
    ⊎_elim
    (λ (i : e ≡ Cancelled q). ap (λ (x : Entry). begun_in (x ∷ abandonments fs)) i ∙ none_begun_by_abandoning fs)
    (λ (i : e ≡ Closed q). ap (λ (x : Entry). begun_in (x ∷ abandonments fs)) i ∙ none_begun_by_abandoning fs)
    is
