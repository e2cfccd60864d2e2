-- A landing that is kept, and an eviction.
use Rattle.std.proofs.Common.{◌≡◌, ◌≢◌, ◌⊎◌, ℕ, suc, ◌+◌, ◌<◌, ◌≤◌, ◌==◌, ◌||◌, not, cond, if◌then◌else◌, Bool, true, false, true≢false, List, [], ◌∷◌, ◌++◌, length, Option, Some, None, slice_get, refl, sym, ap, ◌∙◌, subst, ⊎_elim, arith, append-nil, eq-eqb, ne_eqb, Global}
use Rattle.std.specs.declared.sync.Arc.{Arc}
use Rattle.std.specs.Ordering.{nat_cmp}
use Rattle.std.specs.declared.cmp.Ordering.{Ordering}
use Rattle.std.specs.declared.cmp.Ordering.TheVariants.{Equal}
use Rattle.std.specs.Option.{IsSome, option_map}
use Rattle.std.specs.BTreeMap.{BTreeMap, get, is_at, Updates}
use Rattle.std.proofs.lemmas.Bool.{cases_eq}
use Rattle.link_io.specs.Parcel.{Packed}
use Rattle.shard_cache.proofs.OrderLemmas.{still_listed, oldest_listed}
use Rattle.shard_cache.specs.Recency.{is_listed, without, total_of, oldest_of}
use Rattle.link_io.specs.declared.target.Key.{Key}
use Rattle.link_io.specs.declared.target.Target.{Target}
use Rattle.flight_journal.specs.declared.entry.Entry.{Entry}
use Rattle.flight_journal.specs.declared.entry.Entry.TheVariants.{Landed, Evicted, Refreshed}
use Rattle.link_io.specs.declared.target.Key.TheVariants.{Index}
use Rattle.flight_rows.specs.declared.row.Row.{Row}
use Rattle.flight_rows.specs.declared.row.At.{At}
use Rattle.flight_rows.specs.declared.row.At.TheVariants.{Here, Away, Came}
use Rattle.flight_journal.specs.State.{Flight, State, is_one_of, all_but, is_flying, Flies, IsKept, IsOpen, came_to, change}
use Rattle.flight_journal.specs.Journal.{after, step, Allowed, IsSettled, AreAwaited}
use Rattle.flight_rows.specs.Sight.{ArePlain}
use Rattle.flight_journal.specs.Count.{begun_in}
use Rattle.flight_rows.specs.Rows.{AtFits, RowFits, RowAt, RowsFit, Holds, Keeps, is_live, owed_by, hand_of, hands_of}
use Rattle.flight_rows.specs.Changes.{Changes, Evicts}
use Rattle.flight_rows.specs.Serves.{evictions}
use Rattle.flight_rows.specs.Sight.{flat, hand_in}
use Rattle.flight_rows.proofs.WriteLemmas.{hand_lookup}
use Rattle.flight_journal.proofs.PushLemmas.{after_push}
use Rattle.flight_rows.proofs.StateLemmas.{none_plain, owed_change}
use Rattle.flight_journal.proofs.ListLemmas.{get_changed, get_unchanged, length_change}
use Rattle.std.proofs.lemmas.Option.{slice_get_within}
use Rattle.flight_rows.proofs.RowLemmas.{rows_change, keys_same, keys_drop}
use Rattle.flight_rows.proofs.EntryLemmas.{written, awaited_change, away_flies}
use Rattle.flight_rows.proofs.TakeLemmas.{row_in_hand, flight_of}

-- ---- the order
unlisted : (f : ℕ) (ps : List (ℕ × ℕ)) → is_listed f (without f ps) ≡ false
unlisted f [] = refl
unlisted f (p ∷ ps) = split (p.0 == f) refl (unlisted f ps)
  where
    split : (b : Bool) → (p.0 == f) ≡ b → is_listed f (without f ps) ≡ false → is_listed f (if b then without f ps else p ∷ without f ps) ≡ false
    split true e h = h
    split false e h = rw e h

shorter : (f : ℕ) (ps : List (ℕ × ℕ)) → length (without f ps) ≤ length ps
shorter f [] = omega arith
shorter f (p ∷ ps) = split (p.0 == f) (shorter f ps)
  where
    split : (b : Bool) → length (without f ps) ≤ length ps → length (if b then without f ps else p ∷ without f ps) ≤ suc (length ps)
    split true h = omega arith
    split false h = omega arith

one_less : (f : ℕ) (ps : List (ℕ × ℕ)) → is_listed f ps ≡ true → length (without f ps) + 1 ≤ length ps
one_less f [] e = cc
one_less f (p ∷ ps) e = split (p.0 == f) (one_less f ps) (shorter f ps) e
  where
    split : (b : Bool) → (is_listed f ps ≡ true → length (without f ps) + 1 ≤ length ps) → length (without f ps) ≤ length ps → (if b then true else is_listed f ps) ≡ true
        → length (if b then without f ps else p ∷ without f ps) + 1 ≤ suc (length ps)
    split true h s e = omega arith
    split false h s e = let k = h e in omega arith

-- ---- who awaits
pub fewer : (q : ℕ) (xs : List ℕ) → length (all_but q xs) ≤ length xs
fewer q [] = omega arith
fewer q (x ∷ xs) = split (x == q) (fewer q xs)
  where
    split : (b : Bool) → length (all_but q xs) ≤ length xs → length (cond (not b) (x ∷ all_but q xs) (all_but q xs)) ≤ suc (length xs)
    split true h = omega arith
    split false h = omega arith

pub one_fewer : (q : ℕ) (xs : List ℕ) → is_one_of q xs ≡ true → length (all_but q xs) + 1 ≤ length xs
one_fewer q [] e = cc
one_fewer q (x ∷ xs) e = split (x == q) (one_fewer q xs) (fewer q xs) e
  where
    split : (b : Bool) → (is_one_of q xs ≡ true → length (all_but q xs) + 1 ≤ length xs) → length (all_but q xs) ≤ length xs → b || is_one_of q xs ≡ true
        → length (cond (not b) (x ∷ all_but q xs) (all_but q xs)) + 1 ≤ suc (length xs)
    split true h s e = omega arith
    split false h s e = let k = h e in omega arith

module _ {L V : Type 0} (Aimed : ℕ → Target → Packed L → Type 0) (Came_so : ℕ → Target → Option ℕ → V → Type 0) (cmp : Key → Key → Ordering) (keep : ℕ) (start dialed : List Target) (journal : List Entry) where
  -- a flight lands with a value that has a size: it is kept, the budget may be exceeded
  pub lands : (room : ℕ) (rows rows' : BTreeMap ℕ (Row L V)) (keys : BTreeMap Key ℕ) (order order' : List (ℕ × ℕ)) (recent opened begun owed owed' f q z : ℕ) (v : Arc V Global)
      → Keeps Aimed Came_so cmp keep start dialed journal room rows keys order recent opened begun owed
      → IsSettled keep (after journal) → IsOpen (after journal) q
      → hand_in (hands_of rows.entries) f ≡ Some q
      → ((t : Target) → Flies (after journal) f t → Came_so f t (Some z) v.value)
      → Changes f (λ r s. (s.target ≡ r.target) × (s.queries.items ≡ all_but q r.queries.items) × (s.at ≡ Came v) × (s.kept ≡ true)) rows rows'
      → order' ≡ (f, z) ∷ order
      → owed ≡ owed' + 1
      → Keeps Aimed Came_so cmp keep start dialed (journal ++ Landed q f (Some z) ∷ []) room rows' keys order' recent opened begun owed'
      × AreAwaited (after (journal ++ Landed q f (Some z) ∷ []))
  lands room rows rows' keys order order' recent opened begun owed owed' f q z v keeps settled alive held comes change first less =
      let h = keeps.holds in
      let s = after journal in
      let e = Landed q f (Some z) in
      let s' = step s e in
      let in_hand = row_in_hand rows f q held in
      let x = flight_of Aimed Came_so s rows f change.old h.rows_fit change.was in
      let same : Some change.old ≡ Some in_hand.0 = sym change.was ∙ in_hand.1 in
      let r_is : change.old ≡ in_hand.0 = cc in
      let is_away : change.old.at ≡ Away q = ap (λ (r : Row L V). r.at) r_is ∙ in_hand.2 in
      let away = away_flies Aimed Came_so f q x.0 (is_listed f s.kept) change.old.at is_away x.2.at_so in
      let x' = came_to (Some z) q x.0 in
      let now : slice_get s'.flights f ≡ Some x' = get_changed f (came_to (Some z) q) s.flights ∙ ap (option_map (came_to (Some z) q)) x.1 in
      let others : (g : ℕ) → g ≢ f → slice_get s'.flights g ≡ slice_get s.flights g = λ g ne. get_unchanged f g (came_to (Some z) q) s.flights ne in
      let listed : is_listed f s'.kept ≡ true = ap (λ b. if b then true else is_listed f s.kept) (eq-eqb f f refl) in
      let kept : (g : ℕ) → g ≢ f → is_listed g s'.kept ≡ is_listed g s.kept = λ g ne. ap (λ b. if b then true else is_listed g s.kept) (ne_eqb f g (λ e. ne (sym e))) in
      let fits : RowFits Aimed Came_so f x' true change.new = record {
        target = change.so.0 ∙ x.2.target;
        queries = change.so.1 ∙ ap (all_but q) x.2.queries;
        kept_so = change.so.3;
        at_so = rw change.so.2 (Some z, refl, comes x.0.target (x.0, x.1, away.0, refl));
      } in
      let here : RowAt Aimed Came_so f (slice_get s'.flights f) (is_listed f s'.kept) (get nat_cmp rows' f) = rw (now, listed, change.is) fits in
      let was_live : is_live (is_listed f s.kept) x.0 ≡ true = ap (λ p. is_flying p || is_listed f s.kept) away.0 in
      let sum = owed_change f (came_to (Some z) q) s.flights x.0 x.1 in
      let one : owed_by x.0 ≡ length x.0.queries + 1 = ap (λ p. length x.0.queries + (if is_flying p then 1 else 0)) away.0 in
      let less_one = one_fewer q x.0.queries away.2 in
      let len = length_change f (came_to (Some z) q) s.flights in
      let all : Holds Aimed Came_so cmp s' (length journal + 1) room rows' keys order' recent opened begun owed' = record {
        rows_fit = rows_change Aimed Came_so s s' rows rows' f others kept change.others here h.rows_fit;
        keys_fit = keys_same cmp s s' keys f x.0 x' x.1 now refl (listed ∙ sym was_live) others kept h.keys_fit;
        kept_so = first ∙ ap (λ l. (f, z) ∷ l) h.kept_so;
        recent_so = let so = h.recent_so in omega arith;
        opened_so = h.opened_so;
        begun_so = h.begun_so ∙ sym len;
        few = let few = h.few in omega arith;
        owed_so = let so = h.owed_so in omega arith;
        fits = let fits = h.fits in omega arith;
      } in (
        written Aimed Came_so cmp keep start dialed journal e room rows' keys order' recent opened begun owed' dialed keeps.legal keeps.dialed_so keeps.plain (sym (append-nil _)) none_plain (settled, alive, (x.0, x.1, away.0, away.2)) all,
        rw (after_push journal e) (awaited_change s s' f x' now (λ e. cc) others settled.awaited),
      )

  -- a kept flight is kept no more, by an entry that says so
  pub gives_up : ((a b : Key) → cmp a b ≡ Equal → a ≡ b) → ((a : Key) → cmp a a ≡ Equal)
      → (e : Entry) (room : ℕ) (rows rows' : BTreeMap ℕ (Row L V)) (keys keys' : BTreeMap Key ℕ) (order order' : List (ℕ × ℕ)) (recent opened begun owed owed' f : ℕ) (r : Row L V)
      → step (after journal) e ≡ record (after journal) { kept = without f (after journal).kept } → begun_in (e ∷ []) ≡ [] → Allowed keep (after journal) e
      → Keeps Aimed Came_so cmp keep start dialed journal room rows keys order recent opened begun owed
      → is_listed f (after journal).kept ≡ true
      → (out : Evicts f rows rows') → get nat_cmp rows f ≡ Some r
      → Updates cmp keys keys' r.target.key None
      → order' ≡ without f order
      → owed ≡ owed' + 1
      → Keeps Aimed Came_so cmp keep start dialed (journal ++ e ∷ []) room rows' keys' order' recent opened begun owed'
  gives_up exact own e room rows rows' keys keys' order order' recent opened begun owed owed' f r steps none may keeps listed evicted known frees out less =
      let h = keeps.holds in
      let s = after journal in
      let s' : State = record s { kept = without f s.kept } in
      let both : Some r ≡ Some evicted.row = sym known ∙ evicted.was in
      let r_is : r ≡ evicted.row = cc in
      let x = flight_of Aimed Came_so s rows f r h.rows_fit known in
      let landed_so = kept_landed x.0 r.at (rw listed at x.2.at_so) in
      let gone_so = unlisted f s.kept in
      let here : RowAt Aimed Came_so f (slice_get s'.flights f) (is_listed f s'.kept) (get nat_cmp rows' f) =
      rw (x.1, gone_so) (⊎_elim
      (λ (n : (evicted.row.queries.items ≡ []) × (get nat_cmp rows' f ≡ None)). rw n.1 (landed_so.0, sym x.2.queries ∙ ap (λ (z : Row L V). z.queries.items) r_is ∙ n.0, refl))
      (λ (w : get nat_cmp rows' f ≡ Some (record evicted.row { kept = false })). rw (w, sym r_is) (record { target = x.2.target; queries = x.2.queries; kept_so = refl; at_so = landed_so.1 false }))
      evicted.is) in
      let was_live : is_live (is_listed f s.kept) x.0 ≡ true = rw (listed, landed_so.0) refl in
      let dead : is_live (is_listed f s'.kept) x.0 ≡ false = rw (gone_so, landed_so.0) refl in
      let frees' : Updates cmp keys keys' x.0.target.key None = rw (sym x.2.target) frees in
      let count = one_less f s.kept listed in
      let all : Holds Aimed Came_so cmp s' (length journal + 1) room rows' keys' order' recent opened begun owed' = record {
        rows_fit = rows_change Aimed Came_so s s' rows rows' f (λ g ne. refl) (λ g ne. still_listed f g s.kept ne) evicted.others here h.rows_fit;
        keys_fit = keys_drop cmp exact own s s' keys keys' f x.0 x.0 x.1 x.1 was_live dead (λ g ne. refl) (λ g ne. still_listed f g s.kept ne) frees' h.keys_fit;
        kept_so = out ∙ ap (without f) h.kept_so;
        recent_so = h.recent_so;
        opened_so = h.opened_so;
        begun_so = h.begun_so;
        few = let few = h.few in omega arith;
        owed_so = let so = h.owed_so in omega arith;
        fits = let fits = h.fits in omega arith;
      } in
      written Aimed Came_so cmp keep start dialed journal e room rows' keys' order' recent opened begun owed' dialed keeps.legal keeps.dialed_so keeps.plain (sym (ap (λ l. dialed ++ l) none ∙ append-nil dialed)) (subst ArePlain (sym none) none_plain) may
      (subst (λ (z : State). Holds Aimed Came_so cmp z (length journal + 1) room rows' keys' order' recent opened begun owed') (sym steps) all)
    where
      kept_landed : (y : Flight) (a : At L V) → AtFits Aimed Came_so f y true a → (is_flying y.phase ≡ false) × ((k : Bool) → AtFits Aimed Came_so f y k a)
      kept_landed y (Here p) fits = absurd (true≢false fits.1)
      kept_landed y (Away q) fits = absurd (true≢false fits.1)
      kept_landed y (Came v) fits = (ap is_flying fits.1, λ k. fits)

less_total : (f : ℕ) (ps : List (ℕ × ℕ)) → total_of (without f ps) ≤ total_of ps
less_total f [] = omega arith
less_total f (p ∷ ps) = split (p.0 == f) (less_total f ps)
  where
    split : (b : Bool) → total_of (without f ps) ≤ total_of ps → total_of (if b then without f ps else p ∷ without f ps) ≤ p.1 + total_of ps
    split true h = omega arith
    split false h = omega arith

none_kept : (ps : List (ℕ × ℕ)) → oldest_of ps ≡ None → total_of ps ≡ 0
none_kept [] e = refl
none_kept (p ∷ []) e = cc
none_kept (p ∷ (q ∷ ps)) e = absurd (never (q ∷ ps) e)
  where
    never : (rs : List (ℕ × ℕ)) → oldest_of (p ∷ rs) ≡ None → ⊥
    never [] h = cc
    never (r ∷ []) h = cc
    never (r ∷ (t ∷ rs)) h = never (t ∷ rs) h

pub over_has_oldest : (ps : List (ℕ × ℕ)) (keep : ℕ) → oldest_of ps ≡ None → keep < total_of ps → ⊥
over_has_oldest ps keep e over = let z = none_kept ps e in let bad : ⊥ = omega (arith, z) in bad

pub listed_shorter : (f : ℕ) (ps qs : List (ℕ × ℕ)) → oldest_of ps ≡ Some f → qs ≡ without f ps → length qs < length ps
listed_shorter f ps qs e is = let h = one_less f ps (oldest_listed f ps e) in let l = ap length is in omega arith

module _ {L V : Type 0} (Aimed : ℕ → Target → Packed L → Type 0) (Came_so : ℕ → Target → Option ℕ → V → Type 0) (cmp : Key → Key → Ordering) (keep : ℕ) (start dialed : List Target) (journal : List Entry) where
  -- a flight in hand is not kept, and is below the recency's rows
  pub hand_apart : (room : ℕ) (rows : BTreeMap ℕ (Row L V)) (keys : BTreeMap Key ℕ) (order : List (ℕ × ℕ)) (recent opened begun owed f q : ℕ)
      → Keeps Aimed Came_so cmp keep start dialed journal room rows keys order recent opened begun owed
      → hand_in (hands_of rows.entries) f ≡ Some q
      → (is_listed f order ≡ false) × (f < recent)
  hand_apart room rows keys order recent opened begun owed f q keeps held =
      let r = row_in_hand rows f q held in
      let s = after journal in
      let h = keeps.holds in
      let x = flight_of Aimed Came_so s rows f r.0 h.rows_fit r.1 in
      let away = away_flies Aimed Came_so f q x.0 (is_listed f s.kept) r.0.at r.2 x.2.at_so in
      let below = slice_get_within s.flights f x.0 x.1 in
      let so = h.recent_so in
      (ap (is_listed f) h.kept_so ∙ away.1, omega arith)

  -- the least recent is evicted, while the budget is exceeded
  pub evicts_by : ((a b : Key) → cmp a b ≡ Equal → a ≡ b) → ((a : Key) → cmp a a ≡ Equal)
      → (room : ℕ) (rows rows' : BTreeMap ℕ (Row L V)) (keys keys' : BTreeMap Key ℕ) (order order' : List (ℕ × ℕ)) (recent opened begun owed owed' f : ℕ) (r : Row L V)
      → Keeps Aimed Came_so cmp keep start dialed journal room rows keys order recent opened begun owed
      → AreAwaited (after journal) → keep < total_of order → oldest_of order ≡ Some f
      → Evicts f rows rows' → get nat_cmp rows f ≡ Some r → Updates cmp keys keys' r.target.key None
      → order' ≡ without f order → owed ≡ owed' + 1
      → Keeps Aimed Came_so cmp keep start dialed (journal ++ Evicted f ∷ []) room rows' keys' order' recent opened begun owed'
      × AreAwaited (after (journal ++ Evicted f ∷ []))
  evicts_by exact own room rows rows' keys keys' order order' recent opened begun owed owed' f r keeps awaited over oldest evicted known frees out less =
      let h = keeps.holds in
      let old : oldest_of (after journal).kept ≡ Some f = ap oldest_of (sym h.kept_so) ∙ oldest in
      let listed = oldest_listed f (after journal).kept old in (
        gives_up Aimed Came_so cmp keep start dialed journal exact own (Evicted f) room rows rows' keys keys' order order' recent opened begun owed owed' f r refl refl (rw (sym h.kept_so) over, awaited, old) keeps listed evicted known frees out less,
        rw (after_push journal (Evicted f)) awaited,
      )

  -- a kept index is given up
  pub refreshes : ((a b : Key) → cmp a b ≡ Equal → a ≡ b) → ((a : Key) → cmp a a ≡ Equal)
      → (room : ℕ) (rows rows' : BTreeMap ℕ (Row L V)) (keys keys' : BTreeMap Key ℕ) (order order' : List (ℕ × ℕ)) (recent opened begun owed owed' f : ℕ) (r : Row L V) (t : Target) (url : List ℕ)
      → Keeps Aimed Came_so cmp keep start dialed journal room rows keys order recent opened begun owed
      → IsSettled keep (after journal) → IsKept (after journal) f t → t.key ≡ Index url
      → Evicts f rows rows' → get nat_cmp rows f ≡ Some r → Updates cmp keys keys' r.target.key None
      → order' ≡ without f order → owed ≡ owed' + 1
      → Keeps Aimed Came_so cmp keep start dialed (journal ++ Refreshed f ∷ []) room rows' keys' order' recent opened begun owed'
      × IsSettled keep (after (journal ++ Refreshed f ∷ []))
  refreshes exact own room rows rows' keys keys' order order' recent opened begun owed owed' f r t url keeps settled kept index evicted known frees out less =
      let fewer_bytes = less_total f (after journal).kept in
      let within = settled.within in (
        gives_up Aimed Came_so cmp keep start dialed journal exact own (Refreshed f) room rows rows' keys keys' order order' recent opened begun owed owed' f r refl refl (settled, (t, kept, url, index)) keeps kept.2 evicted known frees out less,
        rw (after_push journal (Refreshed f)) (record { within = omega arith; awaited = settled.awaited }),
      )

  -- a kept flight has a row, and its removal is still to be written
  pub kept_there : (room : ℕ) (rows : BTreeMap ℕ (Row L V)) (keys : BTreeMap Key ℕ) (order : List (ℕ × ℕ)) (recent opened begun owed f : ℕ)
      → Keeps Aimed Came_so cmp keep start dialed journal room rows keys order recent opened begun owed
      → is_listed f order ≡ true
      → IsSome (get nat_cmp rows f) × (1 ≤ owed) × (owed + length journal ≤ room)
  kept_there room rows keys order recent opened begun owed f keeps listed =
      let h = keeps.holds in
      let s = after journal in
      let listed' : is_listed f s.kept ≡ true = ap (is_listed f) (sym h.kept_so) ∙ listed in
      let count = one_less f s.kept listed' in
      let so = h.owed_so in
      let fits = h.fits in
      let all = h.rows_fit f in
      (split (slice_get s.flights f) (get nat_cmp rows f) (rw listed' at all), omega arith, fits)
    where
      split : (x : Option Flight) (r : Option (Row L V)) → RowAt Aimed Came_so f x true r → IsSome r
      split None None e = absurd (true≢false e)
      split None (Some r) e = absurd e
      split (Some x) None e = absurd (true≢false e.2)
      split (Some x) (Some r) e = refl

  -- the same of the least recent
  pub kept_facts : (room : ℕ) (rows : BTreeMap ℕ (Row L V)) (keys : BTreeMap Key ℕ) (order : List (ℕ × ℕ)) (recent opened begun owed f : ℕ)
      → Keeps Aimed Came_so cmp keep start dialed journal room rows keys order recent opened begun owed
      → oldest_of order ≡ Some f
      → (is_listed f order ≡ true) × IsSome (get nat_cmp rows f) × (1 ≤ owed) × (owed + length journal ≤ room)
  kept_facts room rows keys order recent opened begun owed f keeps oldest =
      let listed = oldest_listed f order oldest in
      let there = kept_there room rows keys order recent opened begun owed f keeps listed in
      (listed, there.0, there.1, there.2)

pub evictions_push : (fs : List ℕ) (f : ℕ) → evictions (fs ++ f ∷ []) ≡ evictions fs ++ Evicted f ∷ []
evictions_push [] f = refl
evictions_push (g ∷ fs) f = ap (λ l. Evicted g ∷ l) (evictions_push fs f)

pub none_begun_by : (fs : List ℕ) → begun_in (evictions fs) ≡ []
none_begun_by [] = refl
none_begun_by (f ∷ fs) = none_begun_by fs

-- ---- a landing without a size
module _ {L V : Type 0} (Aimed : ℕ → Target → Packed L → Type 0) (Came_so : ℕ → Target → Option ℕ → V → Type 0) (cmp : Key → Key → Ordering) (keep : ℕ) (start dialed : List Target) (journal : List Entry) where
  -- a flight lands with a value that has no size: its key is free, and its row stays while the value is owed
  pub wrecks : ((a b : Key) → cmp a b ≡ Equal → a ≡ b) → ((a : Key) → cmp a a ≡ Equal)
      → (room : ℕ) (rows put rows' : BTreeMap ℕ (Row L V)) (keys keys' : BTreeMap Key ℕ) (order : List (ℕ × ℕ)) (recent opened begun owed owed' f q : ℕ) (v : Arc V Global) (r : Row L V)
      → Keeps Aimed Came_so cmp keep start dialed journal room rows keys order recent opened begun owed
      → IsSettled keep (after journal) → IsOpen (after journal) q
      → hand_in (hands_of rows.entries) f ≡ Some q
      → ((t : Target) → Flies (after journal) f t → Came_so f t None v.value)
      → Changes f (λ r s. (s.target ≡ r.target) × (s.queries.items ≡ all_but q r.queries.items) × (s.at ≡ Came v) × (s.kept ≡ true)) rows put
      → Evicts f put rows' → get nat_cmp put f ≡ Some r → Updates cmp keys keys' r.target.key None
      → owed ≡ owed' + 1
      → Keeps Aimed Came_so cmp keep start dialed (journal ++ Landed q f None ∷ []) room rows' keys' order recent opened begun owed'
      × IsSettled keep (after (journal ++ Landed q f None ∷ []))
  wrecks exact own room rows put rows' keys keys' order recent opened begun owed owed' f q v r keeps settled alive held comes change evicted known frees less =
      let h = keeps.holds in
      let s = after journal in
      let e = Landed q f None in
      let s' = step s e in
      let in_hand = row_in_hand rows f q held in
      let x = flight_of Aimed Came_so s rows f change.old h.rows_fit change.was in
      let same : Some change.old ≡ Some in_hand.0 = sym change.was ∙ in_hand.1 in
      let r_is : change.old ≡ in_hand.0 = cc in
      let is_away : change.old.at ≡ Away q = ap (λ (r : Row L V). r.at) r_is ∙ in_hand.2 in
      let away = away_flies Aimed Came_so f q x.0 (is_listed f s.kept) change.old.at is_away x.2.at_so in
      let x' = came_to None q x.0 in
      let now : slice_get s'.flights f ≡ Some x' = get_changed f (came_to None q) s.flights ∙ ap (option_map (came_to None q)) x.1 in
      let others : (g : ℕ) → g ≢ f → slice_get s'.flights g ≡ slice_get s.flights g = λ g ne. get_unchanged f g (came_to None q) s.flights ne in
      let out_is : Some change.new ≡ Some evicted.row = sym change.is ∙ evicted.was in
      let out : change.new ≡ evicted.row = cc in
      let known_is : Some change.new ≡ Some r = sym change.is ∙ known in
      let one_row : change.new ≡ r = cc in
      let target : evicted.row.target ≡ x.0.target = ap (λ (z : Row L V). z.target) (sym out) ∙ change.so.0 ∙ x.2.target in
      let queries : evicted.row.queries.items ≡ all_but q x.0.queries = ap (λ (z : Row L V). z.queries.items) (sym out) ∙ change.so.1 ∙ ap (all_but q) x.2.queries in
      let at : evicted.row.at ≡ Came v = ap (λ (z : Row L V). z.at) (sym out) ∙ change.so.2 in
      let stays : RowFits Aimed Came_so f x' false (record evicted.row { kept = false }) = record {
        target = target;
        queries = queries;
        kept_so = refl;
        at_so = rw at (None, refl, comes x.0.target (x.0, x.1, away.0, refl));
      } in
      let here : RowAt Aimed Came_so f (slice_get s'.flights f) (is_listed f s.kept) (get nat_cmp rows' f) =
      rw (now, away.1) (⊎_elim
      (λ (n : (evicted.row.queries.items ≡ []) × (get nat_cmp rows' f ≡ None)). rw n.1 (refl, sym queries ∙ n.0, refl))
      (λ (w : get nat_cmp rows' f ≡ Some (record evicted.row { kept = false })). rw w stays)
      evicted.is) in
      let live : is_live (is_listed f s.kept) x.0 ≡ true = ap (λ p. is_flying p || is_listed f s.kept) away.0 in
      let frees' : Updates cmp keys keys' x.0.target.key None = subst (λ (t : Target). Updates cmp keys keys' t.key None) (ap (λ (z : Row L V). z.target) (sym one_row) ∙ change.so.0 ∙ x.2.target) frees in
      let sum = owed_change f (came_to None q) s.flights x.0 x.1 in
      let one : owed_by x.0 ≡ length x.0.queries + 1 = ap (λ p. length x.0.queries + (if is_flying p then 1 else 0)) away.0 in
      let less_one = one_fewer q x.0.queries away.2 in
      let len = length_change f (came_to None q) s.flights in
      let all : Holds Aimed Came_so cmp s' (length journal + 1) room rows' keys' order recent opened begun owed' = record {
        rows_fit = rows_change Aimed Came_so s s' rows rows' f others (λ g ne. refl) (λ g ne. evicted.others g ne ∙ change.others g ne) here h.rows_fit;
        keys_fit = keys_drop cmp exact own s s' keys keys' f x.0 x' x.1 now live away.1 others (λ g ne. refl) frees' h.keys_fit;
        kept_so = h.kept_so;
        recent_so = let so = h.recent_so in omega arith;
        opened_so = h.opened_so;
        begun_so = h.begun_so ∙ sym len;
        few = let few = h.few in omega arith;
        owed_so = let so = h.owed_so in omega arith;
        fits = let fits = h.fits in omega arith;
      } in (
        written Aimed Came_so cmp keep start dialed journal e room rows' keys' order recent opened begun owed' dialed keeps.legal keeps.dialed_so keeps.plain (sym (append-nil _)) none_plain (settled, alive, (x.0, x.1, away.0, away.2)) all,
        rw (after_push journal e) (record { within = settled.within; awaited = awaited_change s s' f x' now (λ e. cc) others settled.awaited }),
      )

-- ---- hands
-- a row that is evicted moves no parcel, where its value has come
pub hands_evict : {L V : Type 0} (f : ℕ) (rows rows' : BTreeMap ℕ (Row L V)) → (out : Evicts f rows rows') → hand_of out.row.at ≡ None → (g : ℕ) → hand_in (hands_of rows'.entries) g ≡ hand_in (hands_of rows.entries) g
hands_evict {L} {V} f rows rows' out none g =
    ap flat (hand_lookup (is_at (nat_cmp g)) rows'.entries) ∙ here (cases_eq g f) ∙ sym (ap flat (hand_lookup (is_at (nat_cmp g)) rows.entries))
  where
    now : flat (option_map (λ (s : Row L V). hand_of s.at) (get nat_cmp rows' f)) ≡ None
    now = ⊎_elim
        (λ (n : (out.row.queries.items ≡ []) × (get nat_cmp rows' f ≡ None)). ap (λ (o : Option (Row L V)). flat (option_map (λ (s : Row L V). hand_of s.at) o)) n.1)
        (λ (w : get nat_cmp rows' f ≡ Some (record out.row { kept = false })). ap (λ (o : Option (Row L V)). flat (option_map (λ (s : Row L V). hand_of s.at) o)) w ∙ none)
        out.is

    here : (g ≡ f) ⊎ (g ≢ f) → flat (option_map (λ (s : Row L V). hand_of s.at) (get nat_cmp rows' g)) ≡ flat (option_map (λ (s : Row L V). hand_of s.at) (get nat_cmp rows g))
    here e = ⊎_elim
        (λ (i : g ≡ f).
        ap (λ n. flat (option_map (λ (s : Row L V). hand_of s.at) (get nat_cmp rows' n))) i ∙ now
        ∙ sym (ap (λ n. flat (option_map (λ (s : Row L V). hand_of s.at) (get nat_cmp rows n))) i ∙ ap (λ (o : Option (Row L V)). flat (option_map (λ (s : Row L V). hand_of s.at) o)) out.was ∙ none))
        (λ (ne : g ≢ f). ap (λ (o : Option (Row L V)). flat (option_map (λ (s : Row L V). hand_of s.at) o)) (out.others g ne))
        e

-- a kept row has no parcel
module _ {L V : Type 0} (Aimed : ℕ → Target → Packed L → Type 0) (Came_so : ℕ → Target → Option ℕ → V → Type 0) where
  pub kept_no_hand : (s : State) (rows : BTreeMap ℕ (Row L V)) (f : ℕ) (r : Row L V) → RowsFit Aimed Came_so s rows → get nat_cmp rows f ≡ Some r → is_listed f s.kept ≡ true → hand_of r.at ≡ None
  kept_no_hand s rows f r fit known listed =
      let x = flight_of Aimed Came_so s rows f r fit known in
      split x.0 r.at (rw listed at x.2.at_so)
    where
      split : (y : Flight) (a : At L V) → AtFits Aimed Came_so f y true a → hand_of a ≡ None
      split y (Here p) fits = refl
      split y (Away q) fits = absurd (true≢false fits.1)
      split y (Came v) fits = refl

-- a row whose value has just come has no parcel
pub landed_no_hand : {L V : Type 0} (f : ℕ) (P : Row L V → Row L V → Type 0) (rows put rows' : BTreeMap ℕ (Row L V)) (v : Arc V Global) → (change : Changes f P rows put) → change.new.at ≡ Came v → (out : Evicts f put rows') → hand_of out.row.at ≡ None
landed_no_hand {L} {V} f P rows put rows' v change came out =
    let both : Some change.new ≡ Some out.row = sym change.is ∙ out.was in
    let same : change.new ≡ out.row = cc in
    ap (λ (r : Row L V). hand_of r.at) (sym same) ∙ ap hand_of came
