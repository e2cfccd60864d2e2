-- A query leaves, and flights that nobody awaits are abandoned.
use Rattle.std.proofs.Common.{◌≡◌, ◌≢◌, ◌⊎◌, ℕ, zero, suc, ◌+◌, ◌≤◌, ◌||◌, if◌then◌else◌, Bool, true, false, true≢false, List, [], ◌∷◌, ◌++◌, length, map, Option, Some, None, slice_get, slice_set, refl, sym, ap, ◌∙◌, subst, ⊎_elim, arith, append-nil, ne_eqb, Global}
use Rattle.std.specs.declared.sync.Arc.{Arc}
use Rattle.std.specs.Ordering.{nat_cmp}
use Rattle.std.specs.declared.cmp.Ordering.{Ordering}
use Rattle.std.specs.declared.cmp.Ordering.TheVariants.{Equal}
use Rattle.std.specs.Option.{option_map}
use Rattle.std.specs.BTreeMap.{BTreeMap, get, is_at, Updates}
use Rattle.std.proofs.lemmas.Bool.{cases_eq}
use Rattle.std.proofs.lemmas.List.{length-map}
use Rattle.link_io.specs.Parcel.{Packed}
use Rattle.shard_cache.specs.Recency.{is_listed, total_of}
use Rattle.link_io.specs.declared.target.Key.{Key}
use Rattle.link_io.specs.declared.target.Target.{Target}
use Rattle.flight_journal.specs.declared.entry.Entry.{Entry}
use Rattle.flight_journal.specs.declared.entry.Entry.TheVariants.{Abandoned, Taken}
use Rattle.flight_rows.specs.declared.row.Row.{Row}
use Rattle.flight_rows.specs.declared.row.At.{At}
use Rattle.flight_rows.specs.declared.row.At.TheVariants.{Here, Away, Came}
use Rattle.flight_journal.specs.State.{flying, landed, Flight, State, is_one_of, all_but, is_flying, is_landed, IsOpen, IsOwed, parted, ended, left_by}
use Rattle.flight_journal.specs.Journal.{after, step, Allowed, IsSettled, IsLeastAlone}
use Rattle.flight_journal.specs.Count.{begun_in}
use Rattle.flight_rows.specs.Sight.{ArePlain}
use Rattle.flight_rows.specs.Rows.{AtFits, FlightFits, RowAt, KeysFit, Holds, Keeps, is_live, owed_by, owed_for, open_among}
use Rattle.flight_rows.specs.Changes.{Parts, IsValueAt}
use Rattle.flight_rows.specs.Rows.{hand_of, hands_of}
use Rattle.flight_rows.specs.Sight.{flat, hand_in}
use Rattle.flight_journal.proofs.PushLemmas.{after_push}
use Rattle.flight_rows.proofs.StateLemmas.{none_plain, owed_change}
use Rattle.flight_journal.proofs.ListLemmas.{get_changed, get_unchanged, length_change}
use Rattle.flight_rows.proofs.RowLemmas.{rows_change, keys_drop, keys_same}
use Rattle.flight_rows.proofs.EntryLemmas.{written, awaited_change}
use Rattle.flight_rows.proofs.TakeLemmas.{flight_of}
use Rattle.flight_rows.proofs.KeptLemmas.{fewer, one_fewer}
use Rattle.flight_rows.proofs.WriteLemmas.{not_at, hand_lookup}
use Rattle.flight_journal.proofs.ListLemmas.{get_map}
use Rattle.flight_journal.proofs.CarryLemmas.{one_less}

owed_left : (q : ℕ) (xs : List Flight) → owed_for (map (parted q) xs) ≤ owed_for xs
owed_left q [] = omega arith
owed_left q (x ∷ xs) = sums (length (all_but q x.queries)) (length x.queries) (if is_flying x.phase then 1 else 0) (owed_for (map (parted q) xs)) (owed_for xs) (fewer q x.queries) (owed_left q xs)
  where
    sums : (a b c m n : ℕ) → a ≤ b → m ≤ n → a + c + m ≤ b + c + n
    sums a b c m n h k = omega arith

pub one_closed : (q : ℕ) (bs : List Bool) → slice_get bs q ≡ Some true → open_among (slice_set bs q false) + 1 ≡ open_among bs
one_closed q [] e = cc
one_closed zero (true ∷ bs) e = omega arith
one_closed zero (false ∷ bs) e = let bad : false ≡ true = cc in absurd (true≢false (sym bad))
one_closed (suc q) (b ∷ bs) e = let h = one_closed q bs e in omega arith

same_length : (q : ℕ) (bs : List Bool) → length (slice_set bs q false) ≡ length bs
same_length q [] = refl
same_length zero (b ∷ bs) = refl
same_length (suc q) (b ∷ bs) = ap suc (same_length q bs)

module _ {L V : Type 0} (Aimed : ℕ → Target → Packed L → Type 0) (Came_so : ℕ → Target → Option ℕ → V → Type 0) where
  -- what parting leaves of one flight
  part_one : (q f : ℕ) (x : Option Flight) (kept : Bool) (a b : Option (Row L V)) → ((r : Row L V) → a ≡ Some r → r.at ≢ Away q) → Parts q a b → RowAt Aimed Came_so f x kept a → RowAt Aimed Came_so f (option_map (parted q) x) kept b
  part_one q f None kept None b free parts fits = rw parts fits
  part_one q f None kept (Some r) b free parts fits = absurd fits
  part_one q f (Some x) kept None b free parts fits = rw parts (fits.0, ap (all_but q) fits.1, fits.2)
  part_one q f (Some x) kept (Some r) b free parts fits =
      ⊎_elim
      (λ (w : (s : Row L V) × (b ≡ Some s) × (s.target ≡ r.target) × (s.queries.items ≡ all_but q r.queries.items) × (s.kept ≡ r.kept) × (s.at ≡ r.at)).
      rw w.1 (record { target = w.2 ∙ fits.target; queries = w.3 ∙ ap (all_but q) fits.queries; kept_so = w.4 ∙ fits.kept_so; at_so = rw w.5 (still r.at (free r refl) fits.at_so) }))
      (λ (n : (b ≡ None) × (all_but q r.queries.items ≡ []) × (r.kept ≡ false) × ((v : _) × (r.at ≡ Came v))).
      rw n.0 (came n.3.0 (rw n.3.1 at fits.at_so), ap (all_but q) (sym fits.queries) ∙ n.1, sym fits.kept_so ∙ n.2))
      parts
    where
      still : (t : At L V) → t ≢ Away q → AtFits Aimed Came_so f x kept t → AtFits Aimed Came_so f (parted q x) kept t
      still (Here p) ne h = h
      still (Away p) ne h = (h.0, h.1, one_less p q x.queries (ne_eqb q p (λ e. ne (ap Away (sym e)))) ∙ h.2)
      still (Came v) ne h = h

      came : (v : _) → AtFits Aimed Came_so f x kept (Came v) → is_flying x.phase ≡ false
      came v h = ap is_flying h.1

keys_left : (cmp : Key → Key → Ordering) (q : ℕ) (s : State) (keys : BTreeMap Key ℕ) → KeysFit cmp s keys → KeysFit cmp (left_by q s) keys
keys_left cmp q s keys fit = record {
  found = λ k f e. let was = fit.found k f e in (parted q was.0, get_map (parted q) s.flights f ∙ ap (option_map (parted q)) was.1, was.2, was.3);
  listed = λ f y e l. back f y (slice_get s.flights f) refl (sym (get_map (parted q) s.flights f) ∙ e) l;
}
  where
    back : (f : ℕ) (y : Flight) (o : Option Flight) → slice_get s.flights f ≡ o → option_map (parted q) o ≡ Some y → is_live (is_listed f s.kept) y ≡ true → get cmp keys y.target.key ≡ Some f
    back f y None e m l = cc
    back f y (Some x) e m l =
        let y_is : parted q x ≡ y = cc in
        ap (λ (z : Flight). get cmp keys z.target.key) (sym y_is) ∙ fit.listed f x e (ap (λ (z : Flight). is_live (is_listed f s.kept) z) y_is ∙ l)

module _ {L V : Type 0} (Aimed : ℕ → Target → Packed L → Type 0) (Came_so : ℕ → Target → Option ℕ → V → Type 0) (cmp : Key → Key → Ordering) (keep : ℕ) (start dialed : List Target) (journal : List Entry) where
  -- a query that has no parcel in hand leaves: flights may be left alone
  pub leaves : (e : Entry) (room : ℕ) (rows rows' : BTreeMap ℕ (Row L V)) (keys : BTreeMap Key ℕ) (order : List (ℕ × ℕ)) (recent opened begun owed owed' q : ℕ)
      → step (after journal) e ≡ left_by q (after journal) → begun_in (e ∷ []) ≡ [] → Allowed keep (after journal) e
      → Keeps Aimed Came_so cmp keep start dialed journal room rows keys order recent opened begun owed
      → IsSettled keep (after journal) → IsOpen (after journal) q
      → ((f : ℕ) (r : Row L V) → get nat_cmp rows f ≡ Some r → r.at ≢ Away q)
      → ((f : ℕ) → Parts q (get nat_cmp rows f) (get nat_cmp rows' f))
      → owed ≡ owed' + 1
      → Keeps Aimed Came_so cmp keep start dialed (journal ++ e ∷ []) room rows' keys order recent opened begun owed'
      × (total_of (after (journal ++ e ∷ [])).kept ≤ keep)
  leaves e room rows rows' keys order recent opened begun owed owed' q left none may keeps settled alive free parts less =
      let h = keeps.holds in
      let s = after journal in
      let s' = left_by q s in
      let len = length-map s.flights (parted q) in
      let count = one_closed q s.live alive in
      let sum = owed_left q s.flights in
      let all : Holds Aimed Came_so cmp s' (length journal + 1) room rows' keys order recent opened begun owed' = record {
        rows_fit = λ f. rw get_map (part_one Aimed Came_so q f (slice_get s.flights f) (is_listed f s.kept) (get nat_cmp rows f) (get nat_cmp rows' f) (free f) (parts f) (h.rows_fit f));
        keys_fit = keys_left cmp q s keys h.keys_fit;
        kept_so = h.kept_so;
        recent_so = let so = h.recent_so in omega arith;
        opened_so = h.opened_so ∙ sym (same_length q s.live);
        begun_so = h.begun_so ∙ sym len;
        few = let few = h.few in omega arith;
        owed_so = let so = h.owed_so in omega arith;
        fits = let fits = h.fits in omega arith;
      } in (
        written Aimed Came_so cmp keep start dialed journal e room rows' keys order recent opened begun owed' dialed keeps.legal keeps.dialed_so keeps.plain (sym (ap (λ l. dialed ++ l) none ∙ append-nil dialed)) (subst ArePlain (sym none) none_plain) may
            (subst (λ (z : State). Holds Aimed Came_so cmp z (length journal + 1) room rows' keys order recent opened begun owed') (sym left) all),
        subst (λ (z : State). total_of z.kept ≤ keep) (sym (after_push journal e ∙ left)) settled.within,
      )

  -- the least flight that nobody awaits is abandoned
  pub abandons : ((a b : Key) → cmp a b ≡ Equal → a ≡ b) → ((a : Key) → cmp a a ≡ Equal)
      → (room : ℕ) (rows rows' : BTreeMap ℕ (Row L V)) (keys keys' : BTreeMap Key ℕ) (order : List (ℕ × ℕ)) (recent opened begun owed owed' f : ℕ) (r : Row L V)
      → Keeps Aimed Came_so cmp keep start dialed journal room rows keys order recent opened begun owed
      → total_of (after journal).kept ≤ keep → IsLeastAlone (after journal) f
      → get nat_cmp rows f ≡ Some r → Updates nat_cmp rows rows' f None → Updates cmp keys keys' r.target.key None
      → owed ≡ owed' + 1
      → Keeps Aimed Came_so cmp keep start dialed (journal ++ Abandoned f ∷ []) room rows' keys' order recent opened begun owed'
      × (total_of (after (journal ++ Abandoned f ∷ [])).kept ≤ keep)
  abandons exact own room rows rows' keys keys' order recent opened begun owed owed' f r keeps within least known goes frees less =
      let h = keeps.holds in
      let s = after journal in
      let e = Abandoned f in
      let s' = step s e in
      let x = flight_of Aimed Came_so s rows f r h.rows_fit known in
      let both : Some x.0 ≡ Some least.0.0 = sym x.1 ∙ least.0.1 in
      let x_is : x.0 ≡ least.0.0 = cc in
      let flies : x.0.phase ≡ flying = ap (λ (y : Flight). y.phase) x_is ∙ least.0.2 in
      let alone : x.0.queries ≡ [] = ap (λ (y : Flight). y.queries) x_is ∙ least.0.3 in
      let unkept = flying_unkept x.0 (is_listed f s.kept) flies r.at x.2.at_so in
      let x' = ended x.0 in
      let now : slice_get s'.flights f ≡ Some x' = get_changed f ended s.flights ∙ ap (option_map ended) x.1 in
      let others : (g : ℕ) → g ≢ f → slice_get s'.flights g ≡ slice_get s.flights g = λ g ne. get_unchanged f g ended s.flights ne in
      let gone_row : FlightFits Aimed Came_so f x' (is_listed f s.kept) None = (refl, refl, unkept) in
      let here : RowAt Aimed Came_so f (slice_get s'.flights f) (is_listed f s.kept) (get nat_cmp rows' f) = rw (now, goes.1) gone_row in
      let live : is_live (is_listed f s.kept) x.0 ≡ true = ap (λ p. is_flying p || is_listed f s.kept) flies in
      let frees' : Updates cmp keys keys' x.0.target.key None = rw (sym x.2.target) frees in
      let sum = owed_change f ended s.flights x.0 x.1 in
      let one : owed_by x.0 ≡ length x.0.queries + 1 = ap (λ p. length x.0.queries + (if is_flying p then 1 else 0)) flies in
      let len = length_change f ended s.flights in
      let all : Holds Aimed Came_so cmp s' (length journal + 1) room rows' keys' order recent opened begun owed' = record {
        rows_fit = rows_change Aimed Came_so s s' rows rows' f others (λ g ne. refl) (λ g ne. goes.2 g (not_at f g ne)) here h.rows_fit;
        keys_fit = keys_drop cmp exact own s s' keys keys' f x.0 x' x.1 now live unkept others (λ g ne. refl) frees' h.keys_fit;
        kept_so = h.kept_so;
        recent_so = let so = h.recent_so in omega arith;
        opened_so = h.opened_so;
        begun_so = h.begun_so ∙ sym len;
        few = let few = h.few in omega arith;
        owed_so = let so = h.owed_so in omega arith;
        fits = let fits = h.fits in omega arith;
      } in (
        written Aimed Came_so cmp keep start dialed journal e room rows' keys' order recent opened begun owed' dialed keeps.legal keeps.dialed_so keeps.plain (sym (append-nil _)) none_plain (within, least) all,
        rw (after_push journal e) within,
      )
    where
      flying_unkept : (y : Flight) (k : Bool) → y.phase ≡ flying → (a : At L V) → AtFits Aimed Came_so f y k a → k ≡ false
      flying_unkept y k flies (Here p) fits = fits.1
      flying_unkept y k flies (Away p) fits = fits.1
      flying_unkept y k flies (Came v) fits = let bad : flying ≡ landed fits.0 = sym flies ∙ fits.1 in cc

module _ {L V : Type 0} (Aimed : ℕ → Target → Packed L → Type 0) (Came_so : ℕ → Target → Option ℕ → V → Type 0) (cmp : Key → Key → Ordering) (keep : ℕ) (start dialed : List Target) (journal : List Entry) where
  -- an owed value's row
  pub owed_row : (room : ℕ) (rows : BTreeMap ℕ (Row L V)) (keys : BTreeMap Key ℕ) (order : List (ℕ × ℕ)) (recent opened begun owed q f : ℕ)
      → Keeps Aimed Came_so cmp keep start dialed journal room rows keys order recent opened begun owed
      → (is : IsOwed (after journal) q f)
      → ((r : Row L V) × (get nat_cmp rows f ≡ Some r) × ((v : Arc V Global) × (r.at ≡ Came v) × ((z : Option ℕ) × (is.0.phase ≡ landed z) × Came_so f is.0.target z v.value))) × (1 ≤ owed) × (owed + length journal ≤ room)
  owed_row room rows keys order recent opened begun owed q f keeps is =
      let h = keeps.holds in
      let s = after journal in
      let x = is.0 in
      let all = h.rows_fit f in
      let sum = owed_change f (parted q) s.flights x is.1 in
      let less = one_fewer q x.queries is.3 in
      let so = h.owed_so in
      let fits = h.fits in
      (split (get nat_cmp rows f) refl (rw is.1 at all), omega arith, fits)
    where
      at_came : (k : Bool) (a : At L V) → AtFits Aimed Came_so f is.0 k a → (v : Arc V Global) × (a ≡ Came v) × ((z : Option ℕ) × (is.0.phase ≡ landed z) × Came_so f is.0.target z v.value)
      at_came k (Here p) fits = absurd (true≢false (sym is.2 ∙ ap is_landed fits.0))
      at_came k (Away p) fits = absurd (true≢false (sym is.2 ∙ ap is_landed fits.0))
      at_came k (Came v) fits = (v, refl, (fits.0, fits.1, fits.2))

      split : (o : Option (Row L V)) → get nat_cmp rows f ≡ o → FlightFits Aimed Came_so f is.0 (is_listed f (after journal).kept) o
          → (r : Row L V) × (get nat_cmp rows f ≡ Some r) × ((v : Arc V Global) × (r.at ≡ Came v) × ((z : Option ℕ) × (is.0.phase ≡ landed z) × Came_so f is.0.target z v.value))
      split None e fits = absurd (true≢false (sym is.3 ∙ ap (is_one_of q) fits.1))
      split (Some r) e fits = (r, e, at_came (is_listed f (after journal).kept) r.at fits.at_so)

  -- a query takes a value that is owed to it
  pub gives : (room : ℕ) (rows rows' : BTreeMap ℕ (Row L V)) (keys : BTreeMap Key ℕ) (order : List (ℕ × ℕ)) (recent opened begun owed owed' q f : ℕ)
      → Keeps Aimed Came_so cmp keep start dialed journal room rows keys order recent opened begun owed
      → IsSettled keep (after journal) → IsOpen (after journal) q → IsOwed (after journal) q f
      → Parts q (get nat_cmp rows f) (get nat_cmp rows' f)
      → ((g : ℕ) → g ≢ f → get nat_cmp rows' g ≡ get nat_cmp rows g)
      → owed ≡ owed' + 1
      → Keeps Aimed Came_so cmp keep start dialed (journal ++ Taken q f ∷ []) room rows' keys order recent opened begun owed'
      × IsSettled keep (after (journal ++ Taken q f ∷ []))
  gives room rows rows' keys order recent opened begun owed owed' q f keeps settled alive is parts same less =
      let h = keeps.holds in
      let s = after journal in
      let e = Taken q f in
      let s' = step s e in
      let x = is.0 in
      let x' = parted q x in
      let row = (owed_row room rows keys order recent opened begun owed q f keeps is).0 in
      let now : slice_get s'.flights f ≡ Some x' = get_changed f (parted q) s.flights ∙ ap (option_map (parted q)) is.1 in
      let others : (g : ℕ) → g ≢ f → slice_get s'.flights g ≡ slice_get s.flights g = λ g ne. get_unchanged f g (parted q) s.flights ne in
      let one = part_one Aimed Came_so q f (slice_get s.flights f) (is_listed f s.kept) (get nat_cmp rows f) (get nat_cmp rows' f)
      (λ r known away. let both : Some r ≡ Some row.0 = sym known ∙ row.1 in let same : r ≡ row.0 = cc in came_not_away r.at row.2.0 q (ap (λ (z : Row L V). z.at) same ∙ row.2.1) away) parts (h.rows_fit f) in
      let here : RowAt Aimed Came_so f (slice_get s'.flights f) (is_listed f s.kept) (get nat_cmp rows' f) = rw (get_changed f (parted q) s.flights) one in
      let sum = owed_change f (parted q) s.flights x is.1 in
      let fewer_one = one_fewer q x.queries is.3 in
      let len = length_change f (parted q) s.flights in
      let all : Holds Aimed Came_so cmp s' (length journal + 1) room rows' keys order recent opened begun owed' = record {
        rows_fit = rows_change Aimed Came_so s s' rows rows' f others (λ g ne. refl) same here h.rows_fit;
        keys_fit = keys_same cmp s s' keys f x x' is.1 now refl refl others (λ g ne. refl) h.keys_fit;
        kept_so = h.kept_so;
        recent_so = let so = h.recent_so in omega arith;
        opened_so = h.opened_so;
        begun_so = h.begun_so ∙ sym len;
        few = let few = h.few in omega arith;
        owed_so = let so = h.owed_so in omega arith;
        fits = let fits = h.fits in omega arith;
      } in (
        written Aimed Came_so cmp keep start dialed journal e room rows' keys order recent opened begun owed' dialed keeps.legal keeps.dialed_so keeps.plain (sym (append-nil _)) none_plain (settled, alive, is) all,
        rw (after_push journal e) (record { within = settled.within; awaited = awaited_change s s' f x' now (λ flies. absurd (true≢false (sym is.2 ∙ ap is_landed flies))) others settled.awaited }),
      )
    where
      came_not_away : (a : At L V) (v : Arc V Global) (p : ℕ) → a ≡ Came v → a ≡ Away p → ⊥
      came_not_away a v p e h = cc

-- a parting moves no parcel where the flight has landed
pub hands_part : {L V : Type 0} (q f : ℕ) (rows rows' : BTreeMap ℕ (Row L V)) (r : Row L V) (v : Arc V Global) → get nat_cmp rows f ≡ Some r → r.at ≡ Came v
    → Parts q (get nat_cmp rows f) (get nat_cmp rows' f) → ((g : ℕ) → g ≢ f → get nat_cmp rows' g ≡ get nat_cmp rows g)
    → (g : ℕ) → hand_in (hands_of rows'.entries) g ≡ hand_in (hands_of rows.entries) g
hands_part {L} {V} q f rows rows' r v known came parts same g =
    ap flat (hand_lookup (is_at (nat_cmp g)) rows'.entries) ∙ here (cases_eq g f) ∙ sym (ap flat (hand_lookup (is_at (nat_cmp g)) rows.entries))
  where
    hand : Option (Row L V) → Option ℕ
    hand o = flat (option_map (λ (s : Row L V). hand_of s.at) o)

    parted_hand : (b : Option (Row L V)) → Parts q (Some r) b → flat (option_map (λ (s : Row L V). hand_of s.at) b) ≡ None
    parted_hand b p = ⊎_elim
        (λ (w : (s : Row L V) × (b ≡ Some s) × (s.target ≡ r.target) × (s.queries.items ≡ all_but q r.queries.items) × (s.kept ≡ r.kept) × (s.at ≡ r.at)).
        ap (λ (o : Option (Row L V)). flat (option_map (λ (s : Row L V). hand_of s.at) o)) w.1 ∙ ap hand_of (w.5 ∙ came))
        (λ (n : (b ≡ None) × (all_but q r.queries.items ≡ []) × (r.kept ≡ false) × ((v : Arc V Global) × (r.at ≡ Came v))).
        ap (λ (o : Option (Row L V)). flat (option_map (λ (s : Row L V). hand_of s.at) o)) n.0)
        p

    here : (g ≡ f) ⊎ (g ≢ f) → flat (option_map (λ (s : Row L V). hand_of s.at) (get nat_cmp rows' g)) ≡ flat (option_map (λ (s : Row L V). hand_of s.at) (get nat_cmp rows g))
    here e = ⊎_elim
        (λ (s : g ≡ f).
        let new = ap (λ n. flat (option_map (λ (s : Row L V). hand_of s.at) (get nat_cmp rows' n))) s ∙ parted_hand (get nat_cmp rows' f) (subst (λ (o : Option (Row L V)). Parts q o (get nat_cmp rows' f)) known parts) in
        let old = ap (λ n. flat (option_map (λ (s : Row L V). hand_of s.at) (get nat_cmp rows n))) s ∙ ap (λ (o : Option (Row L V)). flat (option_map (λ (s : Row L V). hand_of s.at) o)) known ∙ ap hand_of came in
        new ∙ sym old)
        (λ (ne : g ≢ f). ap (λ (o : Option (Row L V)). flat (option_map (λ (s : Row L V). hand_of s.at) o)) (same g ne))
        e

-- one value at one place
pub one_value : {L V : Type 0} (f : ℕ) (rows : BTreeMap ℕ (Row L V)) (r : Row L V) (v : Arc V Global) (x : V) → get nat_cmp rows f ≡ Some r → r.at ≡ Came v → IsValueAt f rows x → v.value ≡ x
one_value {L} {V} f rows r v x known came is =
    let both : Some r ≡ Some is.0 = sym known ∙ is.1 in
    let same : r ≡ is.0 = cc in
    let at : r.at ≡ Came is.2.0 = ap (λ (z : Row L V). z.at) same ∙ is.2.1 in
    came_one r.at v is.2.0 came at ∙ sym is.2.2
  where
    came_one : (a : At L V) (u w : Arc V Global) → a ≡ Came u → a ≡ Came w → u.value ≡ w.value
    came_one a u w e h = let same : u ≡ w = cc in ap (λ (z : Arc V Global). z.value) same
