-- One row written.
use Rattle.std.proofs.Common.{◌≡◌, ◌≢◌, ◌⊎◌, ℕ, ◌==◌, Bool, true, false, not, IsTrue, cond, List, [], ◌∷◌, length, Option, Some, None, refl, sym, ap, ◌∙◌, subst, ⊎_elim, inl, inr, arith}
use Rattle.std.specs.Ordering.{nat_cmp, is_eq, match_ordering}
use Rattle.std.specs.declared.cmp.Ordering.{Ordering}
use Rattle.std.specs.declared.cmp.Ordering.TheVariants.{Less, Equal, Greater}
use Rattle.std.specs.Option.{IsSome, option_map}
use Rattle.std.proofs.lemmas.Map.Steps.{set_value_same}
use Rattle.std.specs.Map.{lookup, set_value, remove_entry}
use Rattle.std.specs.BTreeMap.{BTreeMap, get, is_at, WritesThrough, insert_entry, Updates}
use Rattle.link_io.specs.Parcel.{Packed}
use Rattle.flight_rows.specs.declared.row.At.TheVariants.{Here}
use Rattle.flight_rows.specs.Sight.{flat, hand_in}
use Rattle.std.proofs.lemmas.Bool.{cases_eq, eqb-true}
use Rattle.flight_rows.specs.declared.row.Row.{Row}
use Rattle.flight_rows.specs.Rows.{hand_of, hands_of}
use Rattle.flight_rows.specs.Changes.{Changes, Evicts, IsSpent, Parts}
use Rattle.flight_journal.specs.State.{all_but}

hands_split : {L V : Type 0} (b : Bool) (e : ℕ × Row L V) (es fs : List (ℕ × Row L V)) (gs : List (ℕ × Option ℕ)) (w : Row L V) → hands_of fs ≡ gs
    → hands_of (cond b ((e.0, w) ∷ es) (e ∷ fs)) ≡ cond b ((e.0, hand_of w.at) ∷ hands_of es) ((e.0, hand_of e.1.at) ∷ gs)
hands_split true e es fs gs w h = refl
hands_split false e es fs gs w h = ap (λ l. (e.0, hand_of e.1.at) ∷ l) h

pub hands_set : {L V : Type 0} (test : ℕ → Bool) (es : List (ℕ × Row L V)) (w : Row L V) → hands_of (set_value test es w) ≡ set_value test (hands_of es) (hand_of w.at)
hands_set test [] w = refl
hands_set test (e ∷ es) w = hands_split (test e.0) e es (set_value test es w) (set_value test (hands_of es) (hand_of w.at)) w (hands_set test es w)

pub not_at : (f g : ℕ) → g ≢ f → is_at (nat_cmp f) g ≡ false
not_at f g ne = grind arith

pub at_self : (f : ℕ) → is_at (nat_cmp f) f ≡ true
at_self f = grind arith

pub changed : {L V : Type 0} (P : Row L V → Row L V → Type 0) (rows rows' : BTreeMap ℕ (Row L V)) (f : ℕ) (old new : Row L V)
    → Some old ≡ get nat_cmp rows f → WritesThrough nat_cmp (nat_cmp f) rows new rows' → P old new → Changes f P rows rows'
changed P rows rows' f old new was wrote so =
    let there : IsSome (get nat_cmp rows f) = subst IsSome was refl in
    let u = wrote.3 there in
    record {
      old = old;
      new = new;
      was = sym was;
      is = u.1;
      so = so;
      others = λ g ne. u.2 g (not_at f g ne);
      hands = ap hands_of wrote.0 ∙ hands_set (is_at (nat_cmp f)) rows.entries new;
    }

pub hand_lookup : {L V : Type 0} (test : ℕ → Bool) (es : List (ℕ × Row L V)) → lookup test (hands_of es) ≡ option_map (λ r. hand_of r.at) (lookup test es)
hand_lookup test [] = refl
hand_lookup test (e ∷ es) = split (test e.0) e es (lookup test es) (lookup test (hands_of es)) (hand_lookup test es)
  where
    split : {L V : Type 0} (b : Bool) (e : ℕ × Row L V) (es : List (ℕ × Row L V)) (o : Option (Row L V)) (h : Option (Option ℕ)) → h ≡ option_map (λ r. hand_of r.at) o
        → cond b (Some (hand_of e.1.at)) h ≡ option_map (λ r. hand_of r.at) (cond b (Some e.1) o)
    split true e es o h same = refl
    split false e es o h same = same

-- a parcel's place that stays leaves the hands as they were
pub hands_stay : {L V : Type 0} (P : Row L V → Row L V → Type 0) (rows rows' : BTreeMap ℕ (Row L V)) (f : ℕ) (change : Changes f P rows rows') → change.new.at ≡ change.old.at
    → hands_of rows'.entries ≡ hands_of rows.entries
hands_stay P rows rows' f change same =
    let h = hand_lookup (is_at (nat_cmp f)) rows.entries in
    let there : lookup (is_at (nat_cmp f)) (hands_of rows.entries) ≡ Some (hand_of change.new.at) = h ∙ ap (option_map (λ r. hand_of r.at)) change.was ∙ ap (λ a. Some (hand_of a)) (sym same) in
    change.hands ∙ set_value_same (is_at (nat_cmp f)) (hands_of rows.entries) (hand_of change.new.at) there

-- what was put in where nothing stood is taken out again
pub removed_again : {X : Type 0} (es : List (ℕ × X)) (k : ℕ) (v : X) → lookup (is_at (nat_cmp k)) es ≡ None → remove_entry (is_at (nat_cmp k)) (insert_entry nat_cmp es k v) ≡ es
removed_again [] k v none = rw (at_self k) refl
removed_again (e ∷ es) k v none = split (nat_cmp k e.0) refl (removed_again es k v) none
  where
    split : (o : Ordering) → nat_cmp k e.0 ≡ o → (lookup (is_at (nat_cmp k)) es ≡ None → remove_entry (is_at (nat_cmp k)) (insert_entry nat_cmp es k v) ≡ es) → cond (is_eq o) (Some e.1) (lookup (is_at (nat_cmp k)) es) ≡ None
        → remove_entry (is_at (nat_cmp k)) (match_ordering o ((k, v) ∷ e ∷ es) ((e.0, v) ∷ es) (e ∷ insert_entry nat_cmp es k v)) ≡ e ∷ es
    split Less is more none = rw (at_self k) refl
    split Equal is more none = cc
    split Greater is more none = rw (is) (ap (λ l. e ∷ l) (more none))

pub removed_again_by : {K X : Type 0} (cmp : K → K → Ordering) (es : List (K × X)) (k : K) (v : X) → is_at (cmp k) k ≡ true → lookup (is_at (cmp k)) es ≡ None → remove_entry (is_at (cmp k)) (insert_entry cmp es k v) ≡ es
removed_again_by cmp [] k v own none = rw own refl
removed_again_by {K} {X} cmp (e ∷ es) k v own none = split (cmp k e.0) refl (removed_again_by cmp es k v own) none
  where
    split : (o : Ordering) → cmp k e.0 ≡ o → (lookup (is_at (cmp k)) es ≡ None → remove_entry (is_at (cmp k)) (insert_entry cmp es k v) ≡ es) → cond (is_eq o) (Some e.1) (lookup (is_at (cmp k)) es) ≡ None
        → remove_entry (is_at (cmp k)) (match_ordering o ((k, v) ∷ e ∷ es) ((e.0, v) ∷ es) (e ∷ insert_entry cmp es k v)) ≡ e ∷ es
    split Less is more none = rw own refl
    split Equal is more none = cc
    split Greater is more none = rw (is) (ap (λ l. e ∷ l) (more none))

-- a flight whose parcel stands here has no hand, as before it began
pub hands_begin : {L V : Type 0} (rows put rows' : BTreeMap ℕ (Row L V)) (f : ℕ) (row : Row L V) (p : Packed L) → get nat_cmp rows f ≡ None → Updates nat_cmp rows put f (Some row)
    → (change : Changes f (λ r s. s ≡ record r { at = Here p }) put rows') → (g : ℕ) → hand_in (hands_of rows'.entries) g ≡ hand_in (hands_of rows.entries) g
hands_begin rows put rows' f row p none puts change g =
    ap flat (hand_lookup (is_at (nat_cmp g)) rows'.entries) ∙ at (cases_eq g f) ∙ sym (ap flat (hand_lookup (is_at (nat_cmp g)) rows.entries))
  where
    at : (g ≡ f) ⊎ (g ≢ f) → flat (option_map (λ r. hand_of r.at) (get nat_cmp rows' g)) ≡ flat (option_map (λ r. hand_of r.at) (get nat_cmp rows g))
    at e = ⊎_elim
        (λ (s : g ≡ f).
        let now = ap (λ n. flat (option_map (λ r. hand_of r.at) (get nat_cmp rows' n))) s ∙ ap (λ o. flat (option_map (λ r. hand_of r.at) o)) change.is ∙ ap (λ r. hand_of r.at) change.so in
        let was = ap (λ n. flat (option_map (λ r. hand_of r.at) (get nat_cmp rows n))) s ∙ ap (λ o. flat (option_map (λ r. hand_of r.at) o)) none in
        now ∙ sym was)
        (λ (ne : g ≢ f). ap (λ o. flat (option_map (λ r. hand_of r.at) o)) (change.others g ne ∙ puts.2 g (not_at f g ne)))
        e

pub evicted_stays : {L V : Type 0} (rows rows' : BTreeMap ℕ (Row L V)) (f : ℕ) (old : Row L V)
    → Some old ≡ get nat_cmp rows f → WritesThrough nat_cmp (nat_cmp f) rows (record old { kept = false }) rows' → Evicts f rows rows'
evicted_stays rows rows' f old was wrote =
    let u = wrote.3 (subst IsSome was refl) in
    record { row = old; was = sym was; is = inr u.1; others = λ g ne. u.2 g (not_at f g ne) }

pub evicted_goes : {L V : Type 0} (rows rows' rows'' : BTreeMap ℕ (Row L V)) (f : ℕ) (old : Row L V)
    → Some old ≡ get nat_cmp rows f → WritesThrough nat_cmp (nat_cmp f) rows (record old { kept = false }) rows' → old.queries.items ≡ [] → Updates nat_cmp rows' rows'' f None → Evicts f rows rows''
evicted_goes rows rows' rows'' f old was wrote none gone =
    let u = wrote.3 (subst IsSome was refl) in
    record { row = old; was = sym was; is = inl (none, gone.1); others = λ g ne. gone.2 g (not_at f g ne) ∙ u.2 g (not_at f g ne) }

pub no_items : {n : ℕ} (xs : List ℕ) → n ≡ length xs → (n == 0) ≡ true → xs ≡ []
no_items [] e z = refl
no_items (x ∷ xs) e z = let zero_is = eqb-true _ 0 z in absurd (omega arith)

pub parted_stays : {L V : Type 0} (q : ℕ) (rows rows' : BTreeMap ℕ (Row L V)) (f : ℕ) (old new : Row L V)
    → Some old ≡ get nat_cmp rows f → WritesThrough nat_cmp (nat_cmp f) rows new rows'
    → (new.target ≡ old.target) × (new.queries.items ≡ all_but q old.queries.items) × (new.kept ≡ old.kept) × (new.at ≡ old.at)
    → Parts q (get nat_cmp rows f) (get nat_cmp rows' f) × ((g : ℕ) → g ≢ f → get nat_cmp rows' g ≡ get nat_cmp rows g)
parted_stays q rows rows' f old new was wrote so =
    let u = wrote.3 (subst IsSome was refl) in
    (subst (λ o. Parts q o (get nat_cmp rows' f)) was (inl (new, u.1, so.0, so.1, so.2, so.3)), λ g ne. u.2 g (not_at f g ne))

pub parted_goes : {L V : Type 0} (q : ℕ) (rows rows' rows'' : BTreeMap ℕ (Row L V)) (f : ℕ) (old new : Row L V)
    → Some old ≡ get nat_cmp rows f → WritesThrough nat_cmp (nat_cmp f) rows new rows'
    → (new.target ≡ old.target) × (new.queries.items ≡ all_but q old.queries.items) × (new.kept ≡ old.kept) × (new.at ≡ old.at)
    → IsSpent new → Updates nat_cmp rows' rows'' f None
    → Parts q (get nat_cmp rows f) (get nat_cmp rows'' f) × ((g : ℕ) → g ≢ f → get nat_cmp rows'' g ≡ get nat_cmp rows g)
parted_goes q rows rows' rows'' f old new was wrote so spent gone =
    let u = wrote.3 (subst IsSome was refl) in
    (subst (λ o. Parts q o (get nat_cmp rows'' f)) was (inr (gone.1, sym so.1 ∙ spent.0, sym so.2 ∙ spent.1, (spent.2.0, sym so.3 ∙ spent.2.1))), λ g ne. gone.2 g (not_at f g ne) ∙ u.2 g (not_at f g ne))

pub not_so : (b : Bool) → IsTrue (not b) → b ≡ false
not_so true e = let bad : false ≡ true = e in cc
not_so false e = refl

pub empty_is : {n : ℕ} (xs : List ℕ) → n ≡ length xs → xs ≡ [] → (n == 0) ≡ true
empty_is {n} xs len none = let zero_is : n ≡ 0 = len ∙ ap length none in grind (arith, zero_is)

pub one_some : {X : Type 0} (x y : X) → Some x ≡ Some y → x ≡ y
one_some x y e = cc
