-- What a call changes of the rows.
use Rattle.std.specs.Prelude.{◌≡◌, ◌≢◌, ◌⊎◌, ℕ, false, [], ◌∷◌, Option, Some, None}
use Rattle.std.specs.declared.sync.Arc.{Arc}
use Rattle.std.specs.declared.alloc.Global.{Global}
use Rattle.std.specs.Ordering.{nat_cmp}
use Rattle.std.specs.BTreeMap.{BTreeMap, get, is_at}
use Rattle.std.specs.Map.{set_value}
use Rattle.link_io.specs.Parcel.{Packed}
use Rattle.link_io.specs.declared.target.Target.{Target}
use Rattle.flight_rows.specs.declared.row.Row.{Row}
use Rattle.flight_rows.specs.declared.row.At.{At}
use Rattle.flight_rows.specs.declared.row.At.TheVariants.{Here, Away, Came}
use Rattle.flight_rows.specs.Rows.{hand_of, hands_of}
use Rattle.flight_journal.specs.State.{all_but}

-- the row of a flight for a target that a query begins, which still has its parcel
pub record IsFirstRow {L V : Type 0} (query : ℕ) (target : Target) (r : Row L V) : Type 0 where
  pub target_is : r.target ≡ target
  pub queries : r.queries.items ≡ query ∷ []
  pub at_is : r.at ≡ Away query
  pub unkept : r.kept ≡ false

-- one row changes, as P says of it before and behind
pub record Changes {L V : Type 0} (f : ℕ) (P : Row L V → Row L V → Type 0) (rows rows' : BTreeMap ℕ (Row L V)) : Type 0 where
  pub old : Row L V
  pub new : Row L V
  pub was : get nat_cmp rows f ≡ Some old
  pub is : get nat_cmp rows' f ≡ Some new
  pub so : P old new
  pub others : (g : ℕ) → g ≢ f → get nat_cmp rows' g ≡ get nat_cmp rows g
  pub hands : hands_of rows'.entries ≡ set_value (is_at (nat_cmp f)) (hands_of rows.entries) (hand_of new.at)

-- the parcel goes to the query, if it stood here
abbrev pub Takes : {L V : Type 0} → ℕ → At L V → At L V → Option (Packed L) → Type 0
Takes query (Here p) at result = (at ≡ Away query) × (result ≡ Some p)
Takes query (Away q) at result = (at ≡ Away q) × (result ≡ None)
Takes query (Came v) at result = (at ≡ Came v) × (result ≡ None)

-- the row is kept no more; where its value is owed to nobody it is gone
pub record Evicts {L V : Type 0} (f : ℕ) (rows rows' : BTreeMap ℕ (Row L V)) : Type 0 where
  pub row : Row L V
  pub was : get nat_cmp rows f ≡ Some row
  pub is : ((row.queries.items ≡ []) × (get nat_cmp rows' f ≡ None)) ⊎ (get nat_cmp rows' f ≡ Some (record row { kept = false }))
  pub others : (g : ℕ) → g ≢ f → get nat_cmp rows' g ≡ get nat_cmp rows g

-- one query awaits the flight no more; a row that then nobody needs is gone
abbrev pub Parts : {L V : Type 0} → ℕ → Option (Row L V) → Option (Row L V) → Type 0
Parts q None b = b ≡ None
Parts {L} {V} q (Some r) b =
    ((s : Row L V) × (b ≡ Some s) × (s.target ≡ r.target) × (s.queries.items ≡ all_but q r.queries.items) × (s.kept ≡ r.kept) × (s.at ≡ r.at))
    ⊎ ((b ≡ None) × (all_but q r.queries.items ≡ []) × (r.kept ≡ false) × ((v : _) × (r.at ≡ Came v)))

-- nobody needs the row
abbrev pub IsSpent : {L V : Type 0} → Row L V → Type 0
IsSpent r = (r.queries.items ≡ []) × (r.kept ≡ false) × ((v : _) × (r.at ≡ Came v))

-- the parcel stands in the row, and nobody awaits it
abbrev pub IsLone : {L V : Type 0} → Row L V → Type 0
IsLone {L} {V} r = (r.queries.items ≡ []) × ((p : Packed L) × (r.at ≡ Here p))

-- the flight has landed, and its row has the value
abbrev pub IsValueAt : {L V : Type 0} → ℕ → BTreeMap ℕ (Row L V) → V → Type 0
IsValueAt {L} {V} f rows x = (r : Row L V) × (get nat_cmp rows f ≡ Some r) × ((v : Arc V Global) × (r.at ≡ Came v) × (x ≡ v.value))

-- the flight has landed
abbrev pub HasCome : {L V : Type 0} → ℕ → BTreeMap ℕ (Row L V) → Type 0
HasCome {L} {V} f rows = (r : Row L V) × (get nat_cmp rows f ≡ Some r) × ((v : Arc V Global) × (r.at ≡ Came v))
