-- What each entry keeps.
use Rattle.std.proofs.Common.{◌≡◌, ◌≢◌, ℕ, ◌+◌, ◌≤◌, Bool, true, false, true≢false, ◌==◌, ◌||◌, List, [], ◌∷◌, ◌++◌, length, Option, Some, None, slice_get, refl, sym, ap, ◌∙◌, subst, ⊎_elim, inl, inr, arith, append-nil, append_assoc, length-append}
use Rattle.flight_rows.specs.Sight.{ArePlain}
use Rattle.flight_rows.proofs.StateLemmas.{none_plain, one_plain, plain_append}
use Rattle.std.proofs.lemmas.List.{length-map}
use Rattle.link_io.specs.Target.{IsPlain}
use Rattle.std.specs.Ordering.{nat_cmp, is_eq}
use Rattle.std.specs.declared.cmp.Ordering.{Ordering}
use Rattle.std.specs.Map.{lookup, remove_entry}
use Rattle.std.specs.BTreeMap.{BTreeMap, get, is_at, Updates, insert_entry}
use Rattle.std.specs.declared.cmp.Ordering.TheVariants.{Equal}
use Rattle.std.proofs.lemmas.Bool.{cases_eq}
use Rattle.link_io.specs.Parcel.{Packed}
use Rattle.shard_cache.specs.Recency.{is_listed}
use Rattle.link_io.specs.declared.target.Key.{Key}
use Rattle.link_io.specs.declared.target.Target.{Target}
use Rattle.flight_journal.specs.declared.entry.Entry.{Entry}
use Rattle.flight_journal.specs.declared.entry.Entry.TheVariants.{Opened, Began, Joined, Hit, Taken, Landed, Lost, Cancelled, Closed, Evicted, Refreshed, Abandoned}
use Rattle.flight_rows.specs.declared.row.Row.{Row}
use Rattle.flight_journal.specs.State.{Phase, flying, landed, gone, Flight, State, nothing, is_one_of, is_flying, WaitsIn, Flies, IsOpen, joined, parted, came_to, ended, change}
use Rattle.flight_journal.specs.Journal.{step, after_from, after, Allowed, LegalFrom, Legal, IsSettled, AreAwaited, IsFreeKey}
use Rattle.flight_rows.specs.Changes.{Changes}
use Rattle.flight_rows.specs.declared.row.At.{At}
use Rattle.flight_rows.specs.declared.row.At.TheVariants.{Here, Away, Came}
use Rattle.std.specs.Option.{IsSome, option_map}
use Rattle.flight_journal.specs.Count.{begun_in}
use Rattle.flight_rows.specs.Rows.{AtFits, RowFits, FlightFits, RowAt, RowsFit, KeysFit, Holds, Keeps, open_among, owed_by, owed_for, is_live}
use Rattle.flight_rows.proofs.RowLemmas.{rows_change, keys_same, keys_add}
use Rattle.flight_rows.proofs.WriteLemmas.{not_at, removed_again_by}
use Rattle.flight_journal.proofs.FetchLemmas.{flights_are_begun}
use Rattle.flight_journal.proofs.PushLemmas.{after_push, legal_push, begun_push}
use Rattle.flight_rows.proofs.StateLemmas.{owed_change}
use Rattle.flight_journal.proofs.ListLemmas.{length_more, get_changed, get_unchanged, length_change, get_last, get_before_last}
use Rattle.std.proofs.lemmas.Option.{slice_get_past}

open_push : (bs : List Bool) → open_among (bs ++ true ∷ []) ≡ open_among bs + 1
open_push [] = refl
open_push (true ∷ bs) = let h = open_push bs in omega arith
open_push (false ∷ bs) = let h = open_push bs in omega arith

module _ {L V : Type 0} (Aimed : ℕ → Target → Packed L → Type 0) (Came_so : ℕ → Target → Option ℕ → V → Type 0) (cmp : Key → Key → Ordering) (keep : ℕ) (start dialed : List Target) (journal : List Entry) where
  -- an entry that may be written, where what the table holds fits the state behind it
  pub written : (e : Entry) (room : ℕ) (rows : BTreeMap ℕ (Row L V)) (keys : BTreeMap Key ℕ) (order : List (ℕ × ℕ)) (recent opened begun owed : ℕ) (now : List Target)
      → Legal keep journal → dialed ≡ start ++ begun_in journal → ArePlain (begun_in journal) → now ≡ dialed ++ begun_in (e ∷ []) → ArePlain (begun_in (e ∷ []))
      → Allowed keep (after journal) e
      → Holds Aimed Came_so cmp (step (after journal) e) (length journal + 1) room rows keys order recent opened begun owed
      → Keeps Aimed Came_so cmp keep start now (journal ++ e ∷ []) room rows keys order recent opened begun owed
  written e room rows keys order recent opened begun owed now legal was plain is new may holds = record {
    legal = legal_push keep journal e legal may;
    dialed_so = is ∙ ap (λ l. l ++ begun_in (e ∷ [])) was ∙ append_assoc start (begun_in journal) (begun_in (e ∷ [])) ∙ ap (λ l. start ++ l) (sym (begun_push journal e));
    plain = rw (begun_push journal e) (plain_append (begun_in journal) (begun_in (e ∷ [])) plain new);
    holds = rw (after_push journal e, length_more journal e) holds;
  }

  pub opens : (room room' : ℕ) (rows : BTreeMap ℕ (Row L V)) (keys : BTreeMap Key ℕ) (order : List (ℕ × ℕ)) (recent opened begun owed : ℕ)
      → Keeps Aimed Came_so cmp keep start dialed journal room rows keys order recent opened begun owed
      → IsSettled keep (after journal)
      → length journal + (owed + 2) ≤ room'
      → Keeps Aimed Came_so cmp keep start dialed (journal ++ Opened opened ∷ []) room' rows keys order recent (opened + 1) begun (owed + 1)
      × IsSettled keep (after (journal ++ Opened opened ∷ []))
  opens room room' rows keys order recent opened begun owed keeps settled space =
      let h = keeps.holds in
      let s = after journal in
      let live = length_more s.live true in
      let count = open_push s.live in
      let all : Holds Aimed Came_so cmp (step s (Opened opened)) (length journal + 1) room' rows keys order recent (opened + 1) begun (owed + 1) = record {
        rows_fit = h.rows_fit;
        keys_fit = record { found = h.keys_fit.found; listed = h.keys_fit.listed };
        kept_so = h.kept_so;
        recent_so = h.recent_so;
        opened_so = omega arith;
        begun_so = h.begun_so;
        few = omega arith;
        owed_so = omega arith;
        fits = omega arith;
      } in (
        written (Opened opened) room' rows keys order recent (opened + 1) begun (owed + 1) dialed keeps.legal keeps.dialed_so keeps.plain (sym (append-nil _)) none_plain (settled, h.opened_so) all,
        rw (after_push journal (Opened opened)) (record { within = settled.within; awaited = settled.awaited }),
      )

pub begins : {L V : Type 0} (Aimed : ℕ → Target → Packed L → Type 0) (Came_so : ℕ → Target → Option ℕ → V → Type 0) (cmp : Key → Key → Ordering) (keep : ℕ) (start : List Target) (room : ℕ) (rows : BTreeMap ℕ (Row L V)) (keys : BTreeMap Key ℕ)
    → rows.entries ≡ [] → keys.entries ≡ []
    → Keeps Aimed Came_so cmp keep start start [] room rows keys [] 0 0 0 0 × IsSettled keep (after [])
unfolding after_from LegalFrom
begins Aimed Came_so cmp keep start room rows keys none no_key = (
  record {
    legal = tt;
    dialed_so = sym (append-nil start);
    plain = none_plain;
    holds = record {
      rows_fit = λ f. rw none refl;
      keys_fit = record {
        found = λ k f e. absurd (none_some (sym (ap (λ l. lookup (is_at (cmp k)) l) no_key) ∙ e));
        listed = λ f x e live. absurd (none_some e);
      };
      kept_so = refl;
      recent_so = omega arith;
      opened_so = refl;
      begun_so = refl;
      few = omega arith;
      owed_so = omega arith;
      fits = omega arith;
    };
  },
  record { within = omega arith; awaited = λ f x e flies. absurd (none_some e) },
)
  where
    none_some : {X : Type 0} {x : X} → None ≡ Some x → ⊥
    none_some e = cc

-- ---- entries for one flight
append_some : (xs : List ℕ) (q : ℕ) → xs ++ q ∷ [] ≢ []
append_some [] q e = cc
append_some (x ∷ xs) q e = cc

has_more : (p q : ℕ) (xs : List ℕ) → is_one_of p xs ≡ true → is_one_of p (xs ++ q ∷ []) ≡ true
has_more p q [] e = cc
has_more p q (x ∷ xs) e = split (x == p) (has_more p q xs) e
  where
    split : (b : Bool) → (is_one_of p xs ≡ true → is_one_of p (xs ++ q ∷ []) ≡ true) → b || is_one_of p xs ≡ true → b || is_one_of p (xs ++ q ∷ []) ≡ true
    split true h e = refl
    split false h e = h e

-- a flying flight has a query wherever it is awaited, and still does where one flight changes
pub awaited_change : (s s' : State) (f : ℕ) (x' : Flight) → slice_get s'.flights f ≡ Some x' → (x'.phase ≡ flying → x'.queries ≢ [])
    → ((g : ℕ) → g ≢ f → slice_get s'.flights g ≡ slice_get s.flights g) → AreAwaited s → AreAwaited s'
awaited_change s s' f x' is here others all g y e flies =
    ⊎_elim
    (λ (same : g ≡ f).
    let y_is : Some y ≡ Some x' = sym e ∙ ap (λ n. slice_get s'.flights n) same ∙ is in
    let y_x : y ≡ x' = cc in
    λ none. here (ap (λ (z : Flight). z.phase) (sym y_x) ∙ flies) (ap (λ (z : Flight). z.queries) (sym y_x) ∙ none))
    (λ (ne : g ≢ f). all g y (sym (others g ne) ∙ e) flies)
    (cases_eq g f)

module _ {L V : Type 0} (Aimed : ℕ → Target → Packed L → Type 0) (Came_so : ℕ → Target → Option ℕ → V → Type 0) where
  at_more : (f q : ℕ) (x : Flight) (kept : Bool) (a b : At L V) → b ≡ a → AtFits Aimed Came_so f x kept a → AtFits Aimed Came_so f (joined q x) kept b
  at_more f q x kept a b same fits = subst (λ v. AtFits Aimed Came_so f (joined q x) kept v) (sym same) (more a fits)
    where
      more : (v : At L V) → AtFits Aimed Came_so f x kept v → AtFits Aimed Came_so f (joined q x) kept v
      more (Here p) h = h
      more (Away p) h = (h.0, h.1, has_more p q x.queries h.2)
      more (Came v) h = h

  -- a flight that is known has the row that its change tells of
  pub row_there : (s : State) (rows rows' : BTreeMap ℕ (Row L V)) (f : ℕ) (x : Flight) (P : Row L V → Row L V → Type 0) → RowsFit Aimed Came_so s rows → slice_get s.flights f ≡ Some x
      → (change : Changes f P rows rows') → RowFits Aimed Came_so f x (is_listed f s.kept) change.old
  row_there s rows rows' f x P fit known change =
      let all = fit f in
      rw (known, change.was) at all

  pub flying_has_row : (s : State) (rows : BTreeMap ℕ (Row L V)) (f : ℕ) (x : Flight) → RowsFit Aimed Came_so s rows → slice_get s.flights f ≡ Some x → x.phase ≡ flying → IsSome (get nat_cmp rows f)
  flying_has_row s rows f x fit known flies = split (get nat_cmp rows f) (rw known at (fit f))
    where
      split : (r : Option (Row L V)) → FlightFits Aimed Came_so f x (is_listed f s.kept) r → IsSome r
      split None h = absurd (true≢false (ap is_flying (sym flies) ∙ h.0))
      split (Some r) h = refl

module _ {L V : Type 0} (Aimed : ℕ → Target → Packed L → Type 0) (Came_so : ℕ → Target → Option ℕ → V → Type 0) (cmp : Key → Key → Ordering) (keep : ℕ) (start dialed : List Target) (journal : List Entry) where
  pub joins : (room room' : ℕ) (rows rows' : BTreeMap ℕ (Row L V)) (keys : BTreeMap Key ℕ) (order : List (ℕ × ℕ)) (recent opened begun owed q f : ℕ)
      → Keeps Aimed Came_so cmp keep start dialed journal room rows keys order recent opened begun owed
      → IsSettled keep (after journal)
      → IsOpen (after journal) q → (t : Target) → Flies (after journal) f t → (WaitsIn (after journal) q f → ⊥)
      → Changes f (λ r s. (s.target ≡ r.target) × (s.queries.items ≡ r.queries.items ++ q ∷ []) × (s.at ≡ r.at) × (s.kept ≡ r.kept)) rows rows'
      → length journal + (owed + 2) ≤ room'
      → Keeps Aimed Came_so cmp keep start dialed (journal ++ Joined q f ∷ []) room' rows' keys order recent opened begun (owed + 1)
      × IsSettled keep (after (journal ++ Joined q f ∷ []))
  joins room room' rows rows' keys order recent opened begun owed q f keeps settled alive t flies apart change space =
      let h = keeps.holds in
      let s = after journal in
      let s' = step s (Joined q f) in
      let x = flies.0 in
      let x' = joined q x in
      let known : slice_get s'.flights f ≡ Some x' = get_changed f (joined q) s.flights ∙ ap (option_map (joined q)) flies.1 in
      let others : (g : ℕ) → g ≢ f → slice_get s'.flights g ≡ slice_get s.flights g = λ g ne. get_unchanged f g (joined q) s.flights ne in
      let fit = row_there Aimed Came_so s rows rows' f x _ h.rows_fit flies.1 change in
      let now : RowFits Aimed Came_so f x' (is_listed f s.kept) change.new = record {
        target = change.so.0 ∙ fit.target;
        queries = change.so.1 ∙ ap (λ l. l ++ q ∷ []) fit.queries;
        kept_so = change.so.3 ∙ fit.kept_so;
        at_so = at_more Aimed Came_so f q x (is_listed f s.kept) change.old.at change.new.at change.so.2 fit.at_so;
      } in
      let here : RowAt Aimed Came_so f (slice_get s'.flights f) (is_listed f s.kept) (get nat_cmp rows' f) = rw (known, change.is) now in
      let sum = owed_change f (joined q) s.flights x flies.1 in
      let one = length_more x.queries q in
      let len = length_change f (joined q) s.flights in
      let all : Holds Aimed Came_so cmp s' (length journal + 1) room' rows' keys order recent opened begun (owed + 1) = record {
        rows_fit = rows_change Aimed Came_so s s' rows rows' f others (λ g ne. refl) change.others here h.rows_fit;
        keys_fit = keys_same cmp s s' keys f x x' flies.1 known refl refl others (λ g ne. refl) h.keys_fit;
        kept_so = h.kept_so;
        recent_so = let so = h.recent_so in omega arith;
        opened_so = h.opened_so;
        begun_so = h.begun_so ∙ sym len;
        few = let few = h.few in omega arith;
        owed_so = let so = h.owed_so in omega arith;
        fits = omega arith;
      } in (
        written Aimed Came_so cmp keep start dialed journal (Joined q f) room' rows' keys order recent opened begun (owed + 1) dialed keeps.legal keeps.dialed_so keeps.plain (sym (append-nil _)) none_plain (settled, alive, (t, flies), apart) all,
        rw (after_push journal (Joined q f)) (record { within = settled.within; awaited = awaited_change s s' f x' known (λ _. append_some x.queries q) others settled.awaited }),
      )

-- ---- a flight begins
owed_push : (xs : List Flight) (x : Flight) → owed_for (xs ++ x ∷ []) ≡ owed_for xs + owed_by x
owed_push [] x = omega arith
owed_push (y ∷ xs) x = sums (owed_by y) (owed_for (xs ++ x ∷ [])) (owed_for xs) (owed_by x) (owed_push xs x)
  where
    sums : (a b c d : ℕ) → b ≡ c + d → a + b ≡ a + c + d
    sums a b c d p = omega arith

pub flies_if : (p : Phase) → is_flying p ≡ true → p ≡ flying
flies_if flying e = refl
flies_if (landed z) e = cc
flies_if gone e = cc

-- a new key is apart from those of all that fly or are kept
new_apart : (s : State) (t : Target) → IsFreeKey s t.key → (g : ℕ) (y : Flight) → slice_get s.flights g ≡ Some y → is_live (is_listed g s.kept) y ≡ true → y.target.key ≢ t.key
new_apart s t new g y known live = split (is_flying y.phase) refl live
  where
    split : (b : Bool) → is_flying y.phase ≡ b → b || is_listed g s.kept ≡ true → y.target.key ≢ t.key
    split true e l = new g y.target (inl (y, known, flies_if y.phase e, refl))
    split false e l = new g y.target (inr (y, known, l, refl))

module _ {L V : Type 0} (Aimed : ℕ → Target → Packed L → Type 0) (Came_so : ℕ → Target → Option ℕ → V → Type 0) where
  -- behind the last flight no row stands and nothing is kept
  pub none_past : (s : State) (rows : BTreeMap ℕ (Row L V)) → RowsFit Aimed Came_so s rows → (is_listed (length s.flights) s.kept ≡ false) × (get nat_cmp rows (length s.flights) ≡ None)
  none_past s rows fit =
      let e : slice_get s.flights (length s.flights) ≡ None = slice_get_past s.flights (length s.flights) (omega arith) in
      let all = fit (length s.flights) in
      split (get nat_cmp rows (length s.flights)) (rw e at all)
    where
      split : (r : Option (Row L V)) → RowAt Aimed Came_so (length s.flights) None (is_listed (length s.flights) s.kept) r → (is_listed (length s.flights) s.kept ≡ false) × (r ≡ None)
      split None h = (h, refl)
      split (Some r) h = absurd h

module _ {L V : Type 0} (Aimed : ℕ → Target → Packed L → Type 0) (Came_so : ℕ → Target → Option ℕ → V → Type 0) (cmp : Key → Key → Ordering) (keep : ℕ) (start dialed : List Target) (journal : List Entry) where
  pub begins_flight : ((a b : Key) → cmp a b ≡ Equal → a ≡ b)
      → (room room' : ℕ) (rows put rows' : BTreeMap ℕ (Row L V)) (keys keys' : BTreeMap Key ℕ) (order : List (ℕ × ℕ)) (recent recent' opened begun owed q : ℕ) (t : Target) (row : Row L V) (p : Packed L)
      → Keeps Aimed Came_so cmp keep start dialed journal room rows keys order recent opened begun owed
      → IsSettled keep (after journal)
      → IsOpen (after journal) q → IsFreeKey (after journal) t.key → IsPlain t
      → Updates nat_cmp rows put begun (Some row) → Updates cmp keys keys' t.key (Some begun)
      → Changes begun (λ r s. s ≡ record r { at = Here p }) put rows'
      → row.target ≡ t → row.queries.items ≡ q ∷ [] → row.kept ≡ false → Aimed begun t p
      → recent' ≡ recent + 1
      → length journal + (owed + 3) ≤ room'
      → Keeps Aimed Came_so cmp keep start (dialed ++ t ∷ []) (journal ++ Began q begun t ∷ []) room' rows' keys' order recent' opened (begun + 1) (owed + 2)
      × IsSettled keep (after (journal ++ Began q begun t ∷ []))
  begins_flight exact room room' rows put rows' keys keys' order recent recent' opened begun owed q t row p keeps settled alive fresh plain puts takes change is_t is_q is_kept aims more space =
      let h = keeps.holds in
      let s = after journal in
      let s' = step s (Began q begun t) in
      let x' : Flight = record { target = t; phase = flying; queries = q ∷ [] } in
      let at_end = h.begun_so in
      let known : slice_get s'.flights begun ≡ Some x' = ap (λ n. slice_get s'.flights n) at_end ∙ get_last s.flights x' in
      let before : slice_get s.flights begun ≡ None = slice_get_past s.flights begun (omega arith) in
      let others : (g : ℕ) → g ≢ begun → slice_get s'.flights g ≡ slice_get s.flights g = λ g ne. get_before_last s.flights x' g (λ e. ne (e ∙ sym at_end)) in
      let past = none_past Aimed Came_so s rows h.rows_fit in
      let unkept : is_listed begun s.kept ≡ false = ap (λ n. is_listed n s.kept) at_end ∙ past.0 in
      let old_is : Some change.old ≡ Some row = sym change.was ∙ puts.1 in
      let old_row : change.old ≡ row = cc in
      let new_row : change.new ≡ record row { at = Here p } = change.so ∙ ap (λ (r : Row L V). record r { at = Here p }) old_row in
      let now : RowFits Aimed Came_so begun x' false (record row { at = Here p }) = record { target = is_t; queries = is_q; kept_so = is_kept; at_so = (refl, refl, aims) } in
      let here : RowAt Aimed Came_so begun (slice_get s'.flights begun) (is_listed begun s.kept) (get nat_cmp rows' begun) = rw (known, unkept, change.is, new_row) now in
      let sum = owed_push s.flights x' in
      let len = length_more s.flights x' in
      let all : Holds Aimed Came_so cmp s' (length journal + 1) room' rows' keys' order recent' opened (begun + 1) (owed + 2) = record {
        rows_fit = rows_change Aimed Came_so s s' rows rows' begun others (λ g ne. refl) (λ g ne. change.others g ne ∙ puts.2 g (not_at begun g ne)) here h.rows_fit;
        keys_fit = keys_add cmp exact s s' keys keys' begun x' before known refl others (λ g ne. refl) (new_apart s t fresh) takes h.keys_fit;
        kept_so = h.kept_so;
        recent_so = let so = h.recent_so in omega arith;
        opened_so = h.opened_so;
        begun_so = omega arith;
        few = let few = h.few in omega arith;
        owed_so = let so = h.owed_so in omega arith;
        fits = omega arith;
      } in (
        written Aimed Came_so cmp keep start dialed journal (Began q begun t) room' rows' keys' order recent' opened (begun + 1) (owed + 2) (dialed ++ t ∷ []) keeps.legal keeps.dialed_so keeps.plain refl (one_plain t plain) (settled, alive, h.begun_so, fresh) all,
        rw (after_push journal (Began q begun t)) (record { within = settled.within; awaited = awaited_change s s' begun x' known (λ _ e. cc) others settled.awaited }),
      )

-- ---- no entry: a parcel goes out, or comes back
module _ {L V : Type 0} (Aimed : ℕ → Target → Packed L → Type 0) (Came_so : ℕ → Target → Option ℕ → V → Type 0) (cmp : Key → Key → Ordering) (keep : ℕ) (start dialed : List Target) (journal : List Entry) where
  pub stays : (room : ℕ) (rows rows' : BTreeMap ℕ (Row L V)) (keys : BTreeMap Key ℕ) (order : List (ℕ × ℕ)) (recent opened begun owed f : ℕ) (x : Flight) (P : Row L V → Row L V → Type 0)
      → Keeps Aimed Came_so cmp keep start dialed journal room rows keys order recent opened begun owed
      → slice_get (after journal).flights f ≡ Some x
      → (change : Changes f P rows rows')
      → (RowFits Aimed Came_so f x (is_listed f (after journal).kept) change.old → RowFits Aimed Came_so f x (is_listed f (after journal).kept) change.new)
      → Keeps Aimed Came_so cmp keep start dialed journal room rows' keys order recent opened begun owed
  stays room rows rows' keys order recent opened begun owed f x P keeps known change still =
      let h = keeps.holds in
      let s = after journal in
      let fit = row_there Aimed Came_so s rows rows' f x P h.rows_fit known change in
      let here : RowAt Aimed Came_so f (slice_get s.flights f) (is_listed f s.kept) (get nat_cmp rows' f) = rw (known, change.is) (still fit) in
      record {
        legal = keeps.legal;
        dialed_so = keeps.dialed_so;
        plain = keeps.plain;
        holds = record {
          rows_fit = rows_change Aimed Came_so s s rows rows' f (λ g ne. refl) (λ g ne. refl) change.others here h.rows_fit;
          keys_fit = h.keys_fit;
          kept_so = h.kept_so;
          recent_so = h.recent_so;
          opened_so = h.opened_so;
          begun_so = h.begun_so;
          few = h.few;
          owed_so = h.owed_so;
          fits = h.fits;
        };
      }

module _ {L V : Type 0} (Aimed : ℕ → Target → Packed L → Type 0) (Came_so : ℕ → Target → Option ℕ → V → Type 0) where
  -- a row with a parcel in hand has a flight that flies and is not kept
  pub away_flies : (f q : ℕ) (x : Flight) (kept : Bool) (a : At L V) → a ≡ Away q → AtFits Aimed Came_so f x kept a → (x.phase ≡ flying) × (kept ≡ false) × (is_one_of q x.queries ≡ true)
  away_flies f q x kept a is fits = rw is at fits

  pub here_flies : (f : ℕ) (p : Packed L) (x : Flight) (kept : Bool) (a : At L V) → a ≡ Here p → AtFits Aimed Came_so f x kept a → (x.phase ≡ flying) × (kept ≡ false) × Aimed f x.target p
  here_flies f p x kept a is fits = rw is at fits

  pub came_landed : (f : ℕ) (v : _) (x : Flight) (kept : Bool) (a : At L V) → a ≡ Came v → AtFits Aimed Came_so f x kept a → (z : Option ℕ) × (x.phase ≡ landed z) × Came_so f x.target z v.value
  came_landed f v x kept a is fits = rw is at fits

-- ---- more room alone
module _ {L V : Type 0} (Aimed : ℕ → Target → Packed L → Type 0) (Came_so : ℕ → Target → Option ℕ → V → Type 0) (cmp : Key → Key → Ordering) (keep : ℕ) (start dialed : List Target) (journal : List Entry) where
  pub roomier : (room room' : ℕ) (rows rows' : BTreeMap ℕ (Row L V)) (keys keys' : BTreeMap Key ℕ) (order : List (ℕ × ℕ)) (recent recent' opened begun owed : ℕ)
      → Keeps Aimed Came_so cmp keep start dialed journal room rows keys order recent opened begun owed
      → rows'.entries ≡ rows.entries → keys'.entries ≡ keys.entries → room ≤ room' → recent ≤ recent'
      → Keeps Aimed Came_so cmp keep start dialed journal room' rows' keys' order recent' opened begun owed
  roomier room room' rows rows' keys keys' order recent recent' opened begun owed keeps same_rows same_keys more further =
      let h = keeps.holds in
      record {
        legal = keeps.legal;
        dialed_so = keeps.dialed_so;
        plain = keeps.plain;
        holds = record {
          rows_fit = λ f. rw same_rows (h.rows_fit f);
          keys_fit = record { found = λ k f e. h.keys_fit.found k f (ap (λ l. lookup (is_at (cmp k)) l) (sym same_keys) ∙ e); listed = λ f x e l. ap (λ l. lookup (is_at (cmp x.target.key)) l) same_keys ∙ h.keys_fit.listed f x e l };
          kept_so = h.kept_so;
          recent_so = let so = h.recent_so in omega arith;
          opened_so = h.opened_so;
          begun_so = h.begun_so;
          few = h.few;
          owed_so = h.owed_so;
          fits = let fits = h.fits in omega arith;
        };
      }

pub none_at : {L V : Type 0} (Aimed : ℕ → Target → Packed L → Type 0) (Came_so : ℕ → Target → Option ℕ → V → Type 0) (s : State) (rows : BTreeMap ℕ (Row L V)) (n : ℕ) → RowsFit Aimed Came_so s rows → n ≡ length s.flights → get nat_cmp rows n ≡ None
none_at Aimed Came_so s rows n fit e = ap (λ m. get nat_cmp rows m) e ∙ (none_past Aimed Came_so s rows fit).1

pub key_absent : (cmp : Key → Key → Ordering) (s : State) (keys : BTreeMap Key ℕ) (t : Target) → KeysFit cmp s keys → IsFreeKey s t.key → get cmp keys t.key ≡ None
key_absent cmp s keys t fit new = split (get cmp keys t.key) refl
  where
    split : (o : Option ℕ) → get cmp keys t.key ≡ o → o ≡ None
    split None e = refl
    split (Some f) e = let was = fit.found t.key f e in absurd (new_apart s t new f was.0 was.1 was.3 was.2)

module _ {L V : Type 0} (Aimed : ℕ → Target → Packed L → Type 0) (Came_so : ℕ → Target → Option ℕ → V → Type 0) (cmp : Key → Key → Ordering) (keep : ℕ) (start dialed : List Target) (journal : List Entry) where
  pub dialed_count : (room : ℕ) (rows : BTreeMap ℕ (Row L V)) (keys : BTreeMap Key ℕ) (order : List (ℕ × ℕ)) (recent opened begun owed : ℕ)
      → Keeps Aimed Came_so cmp keep start dialed journal room rows keys order recent opened begun owed
      → length dialed ≡ length start + begun
  dialed_count room rows keys order recent opened begun owed keeps =
      let a = ap length keeps.dialed_so ∙ length-append start (begun_in journal) in
      let b = sym (length-map (after journal).flights (λ x. x.target)) ∙ ap length (flights_are_begun journal) in
      let d = keeps.holds.begun_so in
      omega arith

module _ {L V : Type 0} (Aimed : ℕ → Target → Packed L → Type 0) (Came_so : ℕ → Target → Option ℕ → V → Type 0) (cmp : Key → Key → Ordering) (keep : ℕ) (start dialed : List Target) (journal : List Entry) where
  pub none_begun : (room : ℕ) (rows : BTreeMap ℕ (Row L V)) (keys : BTreeMap Key ℕ) (order : List (ℕ × ℕ)) (recent opened begun owed : ℕ)
      → Keeps Aimed Came_so cmp keep start dialed journal room rows keys order recent opened begun owed
      → get nat_cmp rows begun ≡ None
  none_begun room rows keys order recent opened begun owed keeps = none_at Aimed Came_so (after journal) rows begun keeps.holds.rows_fit keeps.holds.begun_so

  -- a key that was put in and is taken out again
  pub keys_again : (room : ℕ) (rows : BTreeMap ℕ (Row L V)) (keys keys' keys'' : BTreeMap Key ℕ) (order : List (ℕ × ℕ)) (recent opened begun owed : ℕ) (t : Target) (key : Key)
      → Keeps Aimed Came_so cmp keep start dialed journal room rows keys order recent opened begun owed
      → IsFreeKey (after journal) t.key → ((a : Key) → cmp a a ≡ Equal) → key ≡ t.key
      → keys'.entries ≡ insert_entry cmp keys.entries key begun → keys''.entries ≡ remove_entry (is_at (cmp t.key)) keys'.entries
      → keys''.entries ≡ keys.entries
  keys_again room rows keys keys' keys'' order recent opened begun owed t key keeps new own same put out =
      out ∙ ap (λ l. remove_entry (is_at (cmp t.key)) l) (put ∙ ap (λ k. insert_entry cmp keys.entries k begun) same)
      ∙ removed_again_by cmp keys.entries t.key begun (ap is_eq (own t.key)) (key_absent cmp (after journal) keys t keeps.holds.keys_fit new)
