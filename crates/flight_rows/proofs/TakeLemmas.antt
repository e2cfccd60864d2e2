-- Taking a parcel and putting it back.
use Rattle.std.proofs.Common.{◌≡◌, ◌≢◌, ℕ, ◌+◌, ◌≤◌, true, false, true≢false, ◌||◌, if◌then◌else◌, List, [], ◌∷◌, ◌++◌, length, Option, Some, None, slice_get, refl, sym, ap, ◌∙◌, subst, arith, append-nil}
use Rattle.std.specs.Ordering.{nat_cmp}
use Rattle.std.specs.Option.{IsSome, option_map}
use Rattle.std.specs.BTreeMap.{BTreeMap, get, is_at, Updates}
use Rattle.std.specs.declared.cmp.Ordering.TheVariants.{Equal}
use Rattle.link_io.specs.Parcel.{Packed}
use Rattle.shard_cache.specs.Recency.{is_listed}
use Rattle.link_io.specs.declared.target.Target.{Target}
use Rattle.flight_journal.specs.declared.entry.Entry.{Entry}
use Rattle.flight_rows.specs.declared.row.Row.{Row}
use Rattle.flight_rows.specs.declared.row.At.{At}
use Rattle.flight_rows.specs.declared.row.At.TheVariants.{Here, Away, Came}
use Rattle.flight_rows.specs.declared.row.Place.{Place}
use Rattle.flight_rows.specs.declared.row.Place.TheVariants.{Stranger, Waits, Ready, Owed}
use Rattle.flight_journal.specs.State.{flying, landed, Flight, State, is_one_of, is_flying, is_landed, WaitsIn, IsOwed, Flies, IsOpen, ended}
use Rattle.flight_journal.specs.Journal.{after, step, IsSettled}
use Rattle.flight_journal.specs.declared.entry.Entry.TheVariants.{Lost}
use Rattle.flight_rows.specs.Sight.{Sight}
use Rattle.std.specs.declared.cmp.Ordering.{Ordering}
use Rattle.link_io.specs.declared.target.Key.{Key}
use Rattle.flight_rows.specs.Rows.{Keeps, Holds, owed_by, is_live, AtFits, RowFits, FlightFits, RowAt, RowsFit, hand_of, hands_of}
use Rattle.flight_rows.specs.Changes.{Changes, Takes}
use Rattle.flight_rows.specs.Places.{IsPlace}
use Rattle.flight_rows.specs.Serves.{IsHere, IsStranger}
use Rattle.flight_rows.specs.Sight.{flat, hand_in}
use Rattle.flight_rows.specs.Places.{Finds}
use Rattle.flight_rows.proofs.EntryLemmas.{away_flies, here_flies, came_landed, stays, written, awaited_change}
use Rattle.flight_journal.proofs.PushLemmas.{after_push}
use Rattle.flight_rows.proofs.RowLemmas.{rows_change, keys_drop}
use Rattle.flight_rows.proofs.StateLemmas.{none_plain, owed_change}
use Rattle.flight_journal.proofs.ListLemmas.{get_changed, get_unchanged, length_change}
use Rattle.flight_rows.proofs.WriteLemmas.{hand_lookup, not_at}

-- the hand of a flight, by its row
pub hand_row : {L V : Type 0} (rows : BTreeMap ℕ (Row L V)) (f : ℕ) (r : Row L V) → get nat_cmp rows f ≡ Some r → hand_in (hands_of rows.entries) f ≡ hand_of r.at
hand_row rows f r known = ap flat (hand_lookup (is_at (nat_cmp f)) rows.entries) ∙ ap (λ o. flat (option_map (λ r. hand_of r.at) o)) known

away_of : {L V : Type 0} (a : At L V) (q : ℕ) → hand_of a ≡ Some q → a ≡ Away q
away_of (Here p) q e = cc
away_of (Away p) q e = let same : p ≡ q = cc in ap Away same
away_of (Came v) q e = cc

-- a flight that is in a hand has a row that says so
pub row_in_hand : {L V : Type 0} (rows : BTreeMap ℕ (Row L V)) (f q : ℕ) → hand_in (hands_of rows.entries) f ≡ Some q → (r : Row L V) × (get nat_cmp rows f ≡ Some r) × (r.at ≡ Away q)
row_in_hand {L} {V} rows f q held = split (get nat_cmp rows f) refl (sym (ap flat (hand_lookup (is_at (nat_cmp f)) rows.entries)) ∙ held)
  where
    split : (o : Option (Row L V)) → get nat_cmp rows f ≡ o → flat (option_map (λ r. hand_of r.at) o) ≡ Some q → (r : Row L V) × (get nat_cmp rows f ≡ Some r) × (r.at ≡ Away q)
    split None e h = cc
    split (Some r) e h = (r, e, away_of r.at q h)

-- a hand moves at one row
pub moves : {L V : Type 0} (f : ℕ) (P : Row L V → Row L V → Type 0) (rows rows' : BTreeMap ℕ (Row L V)) (h : Option ℕ) → (change : Changes f P rows rows') → hand_of change.new.at ≡ h
    → (hand_in (hands_of rows'.entries) f ≡ h) × ((g : ℕ) → g ≢ f → hand_in (hands_of rows'.entries) g ≡ hand_in (hands_of rows.entries) g)
moves f P rows rows' h change is = (
  hand_row rows' f change.new change.is ∙ is,
  λ g ne. ap flat (hand_lookup (is_at (nat_cmp g)) rows'.entries) ∙ ap (λ o. flat (option_map (λ r. hand_of r.at) o)) (change.others g ne) ∙ sym (ap flat (hand_lookup (is_at (nat_cmp g)) rows.entries)),
)

module _ {L V : Type 0} (Aimed : ℕ → Target → Packed L → Type 0) (Came_so : ℕ → Target → Option ℕ → V → Type 0) where
  -- a row's flight
  pub flight_of : (s : State) (rows : BTreeMap ℕ (Row L V)) (f : ℕ) (r : Row L V) → RowsFit Aimed Came_so s rows → get nat_cmp rows f ≡ Some r
      → (x : Flight) × (slice_get s.flights f ≡ Some x) × RowFits Aimed Came_so f x (is_listed f s.kept) r
  flight_of s rows f r fit known = let all = fit f in split (slice_get s.flights f) refl (rw known at all)
    where
      split : (o : Option Flight) → slice_get s.flights f ≡ o → RowAt Aimed Came_so f o (is_listed f s.kept) (Some r) → (x : Flight) × (slice_get s.flights f ≡ Some x) × RowFits Aimed Came_so f x (is_listed f s.kept) r
      split None e h = absurd h
      split (Some x) e h = (x, e, h)

  same_flight : (s : State) (f : ℕ) (x y : Flight) → slice_get s.flights f ≡ Some x → slice_get s.flights f ≡ Some y → x ≡ y
  same_flight s f x y e e' = let both : Some x ≡ Some y = sym e ∙ e' in cc

  pub finds_none : (query f : ℕ) (t : Sight) (rows : BTreeMap ℕ (Row L V)) → RowsFit Aimed Came_so (after t.journal) rows → get nat_cmp rows f ≡ None → IsStranger query f t
  finds_none query f t rows fit none = (
    (λ w. let all = gone_flight w.0 w.1 in absurd (true≢false (ap is_flying (sym w.2) ∙ all.0))),
    (λ w. let all = gone_flight w.0 w.1 in absurd (true≢false (sym w.3 ∙ ap (is_one_of query) all.1))),
  )
    where
      gone_flight : (x : Flight) → slice_get (after t.journal).flights f ≡ Some x → (is_flying x.phase ≡ false) × (x.queries ≡ []) × (is_listed f (after t.journal).kept ≡ false)
      gone_flight x known = let all = fit f in rw (known, none) at all

  pub finds_some : (query f : ℕ) (t : Sight) (rows : BTreeMap ℕ (Row L V)) (r : Row L V) (p : Place) → RowsFit Aimed Came_so (after t.journal) rows → t.hands ≡ hands_of rows.entries
      → get nat_cmp rows f ≡ Some r → IsPlace query r p → Finds query f t p
  finds_some query f t rows r p fit hands known is = split p is
    where
      s : State
      s = after t.journal

      split : (p : Place) → IsPlace query r p → Finds query f t p
      split Stranger lacks =
          let x = flight_of (after t.journal) rows f r fit known in (
            (λ w. let same = same_flight (after t.journal) f x.0 w.0 x.1 w.1 in absurd (true≢false (sym w.3 ∙ ap (λ (y : Flight). is_one_of query y.queries) (sym same) ∙ ap (is_one_of query) (sym x.2.queries) ∙ lacks))),
            (λ w. let same = same_flight (after t.journal) f x.0 w.0 x.1 w.1 in absurd (true≢false (sym w.3 ∙ ap (λ (y : Flight). is_one_of query y.queries) (sym same) ∙ ap (is_one_of query) (sym x.2.queries) ∙ lacks))),
          )
      split Waits h =
          let x = flight_of (after t.journal) rows f r fit known in
          let flies = away_flies Aimed Came_so f h.1.0 x.0 (is_listed f (after t.journal).kept) r.at h.1.1 x.2.at_so in
          ((x.0, x.1, flies.0, ap (is_one_of query) (sym x.2.queries) ∙ h.0), (h.1.0, ap (λ l. hand_in l f) hands ∙ hand_row rows f r known ∙ ap hand_of h.1.1))
      split Ready h =
          let x = flight_of (after t.journal) rows f r fit known in
          let flies = here_flies Aimed Came_so f h.1.0 x.0 (is_listed f (after t.journal).kept) r.at h.1.1 x.2.at_so in
          ((x.0, x.1, flies.0, ap (is_one_of query) (sym x.2.queries) ∙ h.0), ap (λ l. hand_in l f) hands ∙ hand_row rows f r known ∙ ap hand_of h.1.1)
      split Owed h =
          let x = flight_of (after t.journal) rows f r fit known in
          let came = came_landed Aimed Came_so f h.1.0 x.0 (is_listed f (after t.journal).kept) r.at h.1.1 x.2.at_so in
          (x.0, x.1, ap is_landed came.1, ap (is_one_of query) (sym x.2.queries) ∙ h.0)

  -- what is taken where the parcel stands here
  pub taken : (query f : ℕ) (t : Sight) (rows rows' : BTreeMap ℕ (Row L V)) (result : Option (Packed L)) → RowsFit Aimed Came_so (after t.journal) rows → t.hands ≡ hands_of rows.entries → IsHere query f t
      → (change : Changes f (λ r s. (s.target ≡ r.target) × (s.queries ≡ r.queries) × (s.kept ≡ r.kept) × Takes query r.at s.at result) rows rows')
      → (x : Flight) × (slice_get (after t.journal).flights f ≡ Some x) × (p : Packed L) × (result ≡ Some p) × (change.new.at ≡ Away query) × Aimed f x.target p × RowFits Aimed Came_so f x (is_listed f (after t.journal).kept) change.new × (x.phase ≡ flying)
  taken query f t rows rows' result fit hands here change =
      let x = flight_of (after t.journal) rows f change.old fit change.was in
      let same = same_flight (after t.journal) f x.0 here.0.0 x.1 here.0.1 in
      let awaits : is_one_of query x.0.queries ≡ true = ap (λ (y : Flight). is_one_of query y.queries) same ∙ here.0.3 in
      let flew : x.0.phase ≡ flying = ap (λ (y : Flight). y.phase) same ∙ here.0.2 in
      let none : hand_of change.old.at ≡ None = sym (ap (λ l. hand_in l f) hands ∙ hand_row rows f change.old change.was) ∙ here.1 in
      let got = split x.0 awaits flew change.old.at change.new.at none change.so.3 x.2.at_so in
      (x.0, x.1, got.0, got.1, got.2, got.3, record { target = change.so.0 ∙ x.2.target; queries = ap (λ v. v.items) change.so.1 ∙ x.2.queries; kept_so = change.so.2 ∙ x.2.kept_so; at_so = got.4 }, flew)
    where
      split : (y : Flight) → is_one_of query y.queries ≡ true → y.phase ≡ flying → (a b : At L V) → hand_of a ≡ None → Takes query a b result → AtFits Aimed Came_so f y (is_listed f (after t.journal).kept) a
          → (p : Packed L) × (result ≡ Some p) × (b ≡ Away query) × Aimed f y.target p × AtFits Aimed Came_so f y (is_listed f (after t.journal).kept) b
      split y awaits flew (Here p) b none takes h = (p, takes.1, takes.0, h.2, rw takes.0 (h.0, h.1, awaits))
      split y awaits flew (Away q) b none takes h = cc
      split y awaits flew (Came v) b none takes h = let e : flying ≡ landed h.0 = sym flew ∙ h.1 in cc

pub some_row : {L V : Type 0} (rows : BTreeMap ℕ (Row L V)) (f q : ℕ) → hand_in (hands_of rows.entries) f ≡ Some q → IsSome (get nat_cmp rows f)
some_row rows f q held = let r = row_in_hand rows f q held in subst IsSome (sym r.1) refl

module _ {L V : Type 0} (Aimed : ℕ → Target → Packed L → Type 0) (Came_so : ℕ → Target → Option ℕ → V → Type 0) (cmp : Key → Key → Ordering) (keep : ℕ) (start dialed : List Target) (journal : List Entry) where
  -- the parcel comes back
  pub back : (room : ℕ) (rows rows' : BTreeMap ℕ (Row L V)) (keys : BTreeMap Key ℕ) (order : List (ℕ × ℕ)) (recent opened begun owed f q : ℕ) (p : Packed L)
      → Keeps Aimed Came_so cmp keep start dialed journal room rows keys order recent opened begun owed
      → hand_in (hands_of rows.entries) f ≡ Some q
      → ((t : Target) → Flies (after journal) f t → Aimed f t p)
      → Changes f (λ r s. s ≡ record r { at = Here p }) rows rows'
      → Keeps Aimed Came_so cmp keep start dialed journal room rows' keys order recent opened begun owed
  back room rows rows' keys order recent opened begun owed f q p keeps held aims change =
      let r = row_in_hand rows f q held in
      let s = after journal in
      let x = flight_of Aimed Came_so s rows f r.0 keeps.holds.rows_fit r.1 in
      let away = away_flies Aimed Came_so f q x.0 (is_listed f s.kept) r.0.at r.2 x.2.at_so in
      stays Aimed Came_so cmp keep start dialed journal room rows rows' keys order recent opened begun owed f x.0 (λ r s. s ≡ record r { at = Here p }) keeps x.1 change
      (λ fit. rw change.so (record { target = fit.target; queries = fit.queries; kept_so = fit.kept_so; at_so = (away.0, away.1, aims x.0.target (x.0, x.1, away.0, refl)) }))

  -- a flight in hand is still to be written of
  pub some_owed : (room : ℕ) (rows : BTreeMap ℕ (Row L V)) (keys : BTreeMap Key ℕ) (order : List (ℕ × ℕ)) (recent opened begun owed f q : ℕ)
      → Keeps Aimed Came_so cmp keep start dialed journal room rows keys order recent opened begun owed
      → hand_in (hands_of rows.entries) f ≡ Some q
      → (1 ≤ owed) × (owed + length journal ≤ room)
  some_owed room rows keys order recent opened begun owed f q keeps held =
      let r = row_in_hand rows f q held in
      let s = after journal in
      let h = keeps.holds in
      let x = flight_of Aimed Came_so s rows f r.0 h.rows_fit r.1 in
      let away = away_flies Aimed Came_so f q x.0 (is_listed f s.kept) r.0.at r.2 x.2.at_so in
      let sum = owed_change f ended s.flights x.0 x.1 in
      let one : owed_by x.0 ≡ length x.0.queries + 1 = ap (λ p. length x.0.queries + (if is_flying p then 1 else 0)) away.0 in
      let so = h.owed_so in
      let fits = h.fits in
      (omega arith, fits)

  pub loses : ((a b : Key) → cmp a b ≡ Equal → a ≡ b) → ((a : Key) → cmp a a ≡ Equal)
      → (room : ℕ) (rows rows' : BTreeMap ℕ (Row L V)) (keys keys' : BTreeMap Key ℕ) (order : List (ℕ × ℕ)) (recent opened begun owed owed' f q : ℕ) (r : Row L V)
      → Keeps Aimed Came_so cmp keep start dialed journal room rows keys order recent opened begun owed
      → IsSettled keep (after journal) → IsOpen (after journal) q
      → hand_in (hands_of rows.entries) f ≡ Some q
      → get nat_cmp rows f ≡ Some r → Updates nat_cmp rows rows' f None → Updates cmp keys keys' r.target.key None
      → owed ≡ owed' + 1
      → Keeps Aimed Came_so cmp keep start dialed (journal ++ Lost q f ∷ []) room rows' keys' order recent opened begun owed'
      × IsSettled keep (after (journal ++ Lost q f ∷ []))
  loses exact own room rows rows' keys keys' order recent opened begun owed owed' f q r keeps settled alive held known goes frees less =
      let h = keeps.holds in
      let s = after journal in
      let s' = step s (Lost q f) in
      let in_hand = row_in_hand rows f q held in
      let same : Some r ≡ Some in_hand.0 = sym known ∙ in_hand.1 in
      let r_is : r ≡ in_hand.0 = cc in
      let is_away : r.at ≡ Away q = ap (λ (z : Row L V). z.at) r_is ∙ in_hand.2 in
      let x = flight_of Aimed Came_so s rows f r h.rows_fit known in
      let away = away_flies Aimed Came_so f q x.0 (is_listed f s.kept) r.at is_away x.2.at_so in
      let x' = ended x.0 in
      let now : slice_get s'.flights f ≡ Some x' = get_changed f ended s.flights ∙ ap (option_map ended) x.1 in
      let others : (g : ℕ) → g ≢ f → slice_get s'.flights g ≡ slice_get s.flights g = λ g ne. get_unchanged f g ended s.flights ne in
      let gone_row : FlightFits Aimed Came_so f x' (is_listed f s.kept) None = (refl, refl, away.1) in
      let here : RowAt Aimed Came_so f (slice_get s'.flights f) (is_listed f s.kept) (get nat_cmp rows' f) = rw (now, goes.1) gone_row in
      let live : is_live (is_listed f s.kept) x.0 ≡ true = ap (λ p. is_flying p || is_listed f s.kept) away.0 in
      let frees' : Updates cmp keys keys' x.0.target.key None = rw (sym x.2.target) frees in
      let sum = owed_change f ended s.flights x.0 x.1 in
      let one : owed_by x.0 ≡ length x.0.queries + 1 = ap (λ p. length x.0.queries + (if is_flying p then 1 else 0)) away.0 in
      let len = length_change f ended s.flights in
      let all : Holds Aimed Came_so cmp s' (length journal + 1) room rows' keys' order recent opened begun owed' = record {
        rows_fit = rows_change Aimed Came_so s s' rows rows' f others (λ g ne. refl) (λ g ne. goes.2 g (not_at f g ne)) here h.rows_fit;
        keys_fit = keys_drop cmp exact own s s' keys keys' f x.0 x' x.1 now live away.1 others (λ g ne. refl) frees' h.keys_fit;
        kept_so = h.kept_so;
        recent_so = let so = h.recent_so in omega arith;
        opened_so = h.opened_so;
        begun_so = h.begun_so ∙ sym len;
        few = let few = h.few in omega arith;
        owed_so = let so = h.owed_so in omega arith;
        fits = let fits = h.fits in omega arith;
      } in (
        written Aimed Came_so cmp keep start dialed journal (Lost q f) room rows' keys' order recent opened begun owed' dialed keeps.legal keeps.dialed_so keeps.plain (sym (append-nil _)) none_plain (settled, alive, (x.0, x.1, away.0, away.2)) all,
        rw (after_push journal (Lost q f)) (record { within = settled.within; awaited = awaited_change s s' f x' now (λ e. cc) others settled.awaited }),
      )

-- a hand is empty where the row is gone
pub moves_out : {L V : Type 0} (f : ℕ) (rows rows' : BTreeMap ℕ (Row L V)) → Updates nat_cmp rows rows' f None
    → (hand_in (hands_of rows'.entries) f ≡ None) × ((g : ℕ) → g ≢ f → hand_in (hands_of rows'.entries) g ≡ hand_in (hands_of rows.entries) g)
moves_out f rows rows' goes = (
  ap flat (hand_lookup (is_at (nat_cmp f)) rows'.entries) ∙ ap (λ o. flat (option_map (λ r. hand_of r.at) o)) goes.1,
  λ g ne. ap flat (hand_lookup (is_at (nat_cmp g)) rows'.entries) ∙ ap (λ o. flat (option_map (λ r. hand_of r.at) o)) (goes.2 g (not_at f g ne)) ∙ sym (ap flat (hand_lookup (is_at (nat_cmp g)) rows.entries)),
)

-- a query that waits in a flight is not owed its value
pub waits_not_owed : (s : State) (q f : ℕ) → WaitsIn s q f → IsOwed s q f → ⊥
waits_not_owed s q f w o =
    let both : Some w.0 ≡ Some o.0 = sym w.1 ∙ o.1 in
    let same : w.0 ≡ o.0 = cc in
    true≢false (sym o.2 ∙ ap (λ (x : Flight). is_landed x.phase) (sym same) ∙ ap is_landed w.2)

pub none_some : {X : Type 0} (x : X) → None ≡ Some x → ⊥
none_some x e = cc
