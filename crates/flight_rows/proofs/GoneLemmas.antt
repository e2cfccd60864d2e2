-- What is still to be written of a query that leaves, and of the flights that it leaves alone.
use Rattle.std.proofs.Common.{◌≡◌, ◌≢◌, ◌⊎◌, ℕ, ◌+◌, ◌≤◌, true, false, List, [], ◌∷◌, ◌++◌, length, Option, Some, None, if◌then◌else◌, sym, ap, ◌∙◌, subst, ⊎_elim, inl, arith}
use Rattle.std.specs.Ordering.{nat_cmp}
use Rattle.std.specs.Option.{option_map}
use Rattle.std.specs.declared.cmp.Ordering.{Ordering}
use Rattle.std.specs.BTreeMap.{BTreeMap, get, is_at, Updates}
use Rattle.std.proofs.lemmas.Bool.{cases_eq}
use Rattle.link_io.specs.Parcel.{Packed}
use Rattle.link_io.specs.declared.target.Key.{Key}
use Rattle.link_io.specs.declared.target.Target.{Target}
use Rattle.flight_journal.specs.declared.entry.Entry.{Entry}
use Rattle.flight_journal.specs.State.{State, is_flying, is_one_of, all_but, WaitsIn, IsOwed, IsOpen, ended, left_by}
use Rattle.flight_journal.specs.Journal.{after, step, AreAwaited, IsAlone}
use Rattle.flight_journal.proofs.PushLemmas.{after_push}
use Rattle.flight_rows.specs.declared.row.Row.{Row}
use Rattle.flight_rows.specs.declared.row.At.TheVariants.{Came}
use Rattle.flight_rows.specs.Rows.{Keeps, owed_by, hand_of, hands_of}
use Rattle.flight_rows.specs.Changes.{IsLone, Parts}
use Rattle.flight_rows.specs.Sight.{flat, hand_in}
use Rattle.flight_rows.proofs.StateLemmas.{owed_change}
use Rattle.flight_rows.proofs.WriteLemmas.{hand_lookup}
use Rattle.flight_rows.proofs.TakeLemmas.{moves_out, hand_row}
use Rattle.flight_rows.proofs.LeaveLemmas.{one_closed}
use Rattle.flight_rows.proofs.EachLemmas.{one_at}
use Rattle.flight_rows.proofs.AloneLemmas.{alone_was_awaited, AloneFrom}

module _ {L V : Type 0} (Aimed : ℕ → Target → Packed L → Type 0) (Came_so : ℕ → Target → Option ℕ → V → Type 0) (cmp : Key → Key → Ordering) (keep : ℕ) (start dialed : List Target) (journal : List Entry) where
  -- an open query's last entry is still to be written
  pub open_owed : (room : ℕ) (rows : BTreeMap ℕ (Row L V)) (keys : BTreeMap Key ℕ) (order : List (ℕ × ℕ)) (recent opened begun owed q : ℕ)
      → Keeps Aimed Came_so cmp keep start dialed journal room rows keys order recent opened begun owed
      → IsOpen (after journal) q → (1 ≤ owed) × (owed + length journal ≤ room)
  open_owed room rows keys order recent opened begun owed q keeps alive =
      let one = one_closed q (after journal).live alive in
      let so = keeps.holds.owed_so in
      let fits = keeps.holds.fits in
      (omega arith, fits)

  -- a lone flight's entry is still to be written
  pub lone_owed : (room : ℕ) (rows : BTreeMap ℕ (Row L V)) (keys : BTreeMap Key ℕ) (order : List (ℕ × ℕ)) (recent opened begun owed f : ℕ)
      → Keeps Aimed Came_so cmp keep start dialed journal room rows keys order recent opened begun owed
      → IsAlone (after journal) f → (1 ≤ owed) × (owed + length journal ≤ room)
  lone_owed room rows keys order recent opened begun owed f keeps alone =
      let sum = owed_change f ended (after journal).flights alone.0 alone.1 in
      let one : owed_by alone.0 ≡ length alone.0.queries + 1 = ap (λ p. length alone.0.queries + (if is_flying p then 1 else 0)) alone.2 in
      let so = keeps.holds.owed_so in
      let fits = keeps.holds.fits in
      (omega arith, fits)

-- behind a query that left, the flights that nobody awaits are among those that it awaited
pub first_alone : (q : ℕ) (e : Entry) (journal : List Entry) (flights : List ℕ) → step (after journal) e ≡ left_by q (after journal) → AreAwaited (after journal)
    → ((f : ℕ) → WaitsIn (after journal) q f ⊎ IsOwed (after journal) q f → is_one_of f flights ≡ true) → AloneFrom (after (journal ++ e ∷ [])) flights 0
first_alone q e journal flights left awaited among g alone =
    let behind : IsAlone (left_by q (after journal)) g = subst (λ (s : State). IsAlone s g) (after_push journal e ∙ left) alone in
    let w = one_at g flights (among g (inl (alone_was_awaited q g (after journal) awaited behind))) in
    (w.0, omega arith, w.1, w.2)

-- a query that parts from rows moves no parcel
pub hands_left : {L V : Type 0} (q : ℕ) (rows rows' : BTreeMap ℕ (Row L V)) → ((f : ℕ) → Parts q (get nat_cmp rows f) (get nat_cmp rows' f)) → (g : ℕ) → hand_in (hands_of rows'.entries) g ≡ hand_in (hands_of rows.entries) g
hands_left {L} {V} q rows rows' parts g =
    ap flat (hand_lookup (is_at (nat_cmp g)) rows'.entries) ∙ same (get nat_cmp rows g) (get nat_cmp rows' g) (parts g) ∙ sym (ap flat (hand_lookup (is_at (nat_cmp g)) rows.entries))
  where
    same : (a b : Option (Row L V)) → Parts q a b → flat (option_map (λ (s : Row L V). hand_of s.at) b) ≡ flat (option_map (λ (s : Row L V). hand_of s.at) a)
    same None b parts = ap (λ (o : Option (Row L V)). flat (option_map (λ (s : Row L V). hand_of s.at) o)) parts
    same (Some r) b parts =
        ⊎_elim
        (λ (w : (s : Row L V) × (b ≡ Some s) × (s.target ≡ r.target) × (s.queries.items ≡ all_but q r.queries.items) × (s.kept ≡ r.kept) × (s.at ≡ r.at)).
        ap (λ (o : Option (Row L V)). flat (option_map (λ (s : Row L V). hand_of s.at) o)) w.1 ∙ ap hand_of w.5)
        (λ (n : (b ≡ None) × (all_but q r.queries.items ≡ []) × (r.kept ≡ false) × ((v : _) × (r.at ≡ Came v))).
        ap (λ (o : Option (Row L V)). flat (option_map (λ (s : Row L V). hand_of s.at) o)) n.0 ∙ sym (ap hand_of n.3.1))
        parts

-- a lone row that goes moves no parcel
pub hands_gone : {L V : Type 0} (f : ℕ) (rows rows' : BTreeMap ℕ (Row L V)) (r : Row L V) → get nat_cmp rows f ≡ Some r → IsLone r → Updates nat_cmp rows rows' f None → (g : ℕ) → hand_in (hands_of rows'.entries) g ≡ hand_in (hands_of rows.entries) g
hands_gone f rows rows' r known lone goes g =
    let out = moves_out f rows rows' goes in
    let was : hand_in (hands_of rows.entries) f ≡ None = hand_row rows f r known ∙ ap hand_of lone.1.1 in
    ⊎_elim
    (λ (e : g ≡ f). ap (hand_in (hands_of rows'.entries)) e ∙ out.0 ∙ sym (ap (hand_in (hands_of rows.entries)) e ∙ was))
    (λ (ne : g ≢ f). out.1 g ne)
    (cases_eq g f)
