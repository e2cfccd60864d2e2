-- Flights and queries, as a journal tells them (docs/FORMATS.md, "Journal entries").
use Rattle.std.specs.Prelude.{◌≡◌, ◌⊎◌, ℕ, zero, suc, ◌==◌, Bool, true, false, not, List, [], ◌∷◌, ◌++◌, map, filter, slice_get, slice_set, Option, Some, None}
use Rattle.std.specs.List.{list_any}
use Rattle.std.specs.Option.{unwrap_or}
use Rattle.shard_cache.specs.Recency.{is_listed}
use Rattle.link_io.specs.declared.target.Target.{Target}

-- where a flight stands: its reply is still to come; it came to a value that is kept with this size, or that has none;
-- or it was lost or abandoned
pub data Phase : Type 0 where
  flying : Phase
  landed : Option ℕ → Phase
  gone : Phase

-- one flight. Its queries wait in it while it flies, and are owed its value once it has landed
pub record Flight : Type 0 where
  pub target : Target
  pub phase : Phase
  pub queries : List ℕ

-- all that a journal tells: by number, whether each query is open and what became of each flight;
-- and the kept flights with their sizes, the most recently used first
pub record State : Type 0 where
  pub live : List Bool
  pub flights : List Flight
  pub kept : List (ℕ × ℕ)

-- before the first entry
abbrev pub nothing : State
nothing = record { live = []; flights = []; kept = [] }

-- whether a query is one of these
abbrev pub is_one_of : ℕ → List ℕ → Bool
is_one_of query queries = list_any (λ other. other == query) queries

-- these queries but one
abbrev pub all_but : ℕ → List ℕ → List ℕ
all_but query queries = filter (λ other. not (other == query)) queries

-- whether the flight flies
abbrev pub is_flying : Phase → Bool
is_flying flying = true
is_flying (landed size) = false
is_flying gone = false

-- whether the flight came to a value
abbrev pub is_landed : Phase → Bool
is_landed flying = false
is_landed (landed size) = true
is_landed gone = false

-- the flight of this number
abbrev pub IsFlight : State → ℕ → Flight → Type 0
IsFlight s f x = slice_get s.flights f ≡ Some x

-- the query waits in the flight
abbrev pub WaitsIn : State → ℕ → ℕ → Type 0
WaitsIn s q f = (x : Flight) × IsFlight s f x × (x.phase ≡ flying) × (is_one_of q x.queries ≡ true)

-- the flight's value is owed to the query
abbrev pub IsOwed : State → ℕ → ℕ → Type 0
IsOwed s q f = (x : Flight) × IsFlight s f x × (is_landed x.phase ≡ true) × (is_one_of q x.queries ≡ true)

-- the flight flies, for this target
abbrev pub Flies : State → ℕ → Target → Type 0
Flies s f t = (x : Flight) × IsFlight s f x × (x.phase ≡ flying) × (x.target ≡ t)

-- the flight is kept, and was for this target
abbrev pub IsKept : State → ℕ → Target → Type 0
IsKept s f t = (x : Flight) × IsFlight s f x × (is_listed f s.kept ≡ true) × (x.target ≡ t)

-- the flight holds its target's key: it flies or is kept
abbrev pub HoldsKey : State → ℕ → Target → Type 0
HoldsKey s f t = Flies s f t ⊎ IsKept s f t

-- whether the query is open
abbrev pub is_open : State → ℕ → Bool
is_open s q = unwrap_or (slice_get s.live q) false

-- the query is open
abbrev pub IsOpen : State → ℕ → Type 0
IsOpen s q = slice_get s.live q ≡ Some true

-- a flight with one query more
abbrev pub joined : ℕ → Flight → Flight
joined q x = record x { queries = x.queries ++ q ∷ [] }

-- a flight with one query less
abbrev pub parted : ℕ → Flight → Flight
parted q x = record x { queries = all_but q x.queries }

-- a flight that came to a value by one query: it is owed to the others
abbrev pub came_to : Option ℕ → ℕ → Flight → Flight
came_to size q x = record x { phase = landed size; queries = all_but q x.queries }

-- a flight that came to nothing, and is owed to nobody
abbrev pub ended : Flight → Flight
ended x = record x { phase = gone; queries = [] }

-- a list with one element changed
abbrev pub change : {X : Type 0} → ℕ → (X → X) → List X → List X
change n g [] = []
change zero g (x ∷ xs) = g x ∷ xs
change (suc n) g (x ∷ xs) = x ∷ change n g xs

-- the state with one flight changed
abbrev pub with_flight : ℕ → (Flight → Flight) → State → State
with_flight f g s = record s { flights = change f g s.flights }

-- the state without a query, which waits nowhere any more and is owed nothing
abbrev pub left_by : ℕ → State → State
left_by q s = record s { live = slice_set s.live q false; flights = map (parted q) s.flights }

-- the kept flights with one more in front, where it has a size
abbrev pub kept_first : ℕ → Option ℕ → List (ℕ × ℕ) → List (ℕ × ℕ)
kept_first f None kept = kept
kept_first f (Some size) kept = (f, size) ∷ kept
