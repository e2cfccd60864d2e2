-- The state after a journal, and which journals are legal: one history of one thread
-- (docs/FORMATS.md, "Journal entries").
use Rattle.std.specs.Prelude.{◌≡◌, ◌≢◌, ℕ, ◌<◌, ◌≤◌, true, List, [], ◌∷◌, ◌++◌, length, Some, ⊤}
use Rattle.shard_cache.specs.Recency.{without, only, total_of, oldest_of}
use Rattle.link_io.specs.declared.target.Key.{Key}
use Rattle.link_io.specs.declared.target.Key.TheVariants as key
use Rattle.link_io.specs.declared.target.Target.{Target}
use Rattle.flight_journal.specs.declared.entry.Entry.{Entry}
use Rattle.flight_journal.specs.declared.entry.Entry.TheVariants.{Opened, Began, Joined, Hit, Taken, Landed, Lost, Cancelled, Closed, Evicted, Refreshed, Abandoned}
use Rattle.flight_journal.specs.State.{flying, Flight, State, nothing, IsFlight, WaitsIn, IsOwed, Flies, IsKept, HoldsKey, IsOpen, joined, parted, came_to, ended, change, with_flight, left_by, kept_first}

-- the state behind one entry more
abbrev pub step : State → Entry → State
step s (Opened q) = record s { live = s.live ++ true ∷ [] }
step s (Began q f t) = record s { flights = s.flights ++ record { target = t; phase = flying; queries = q ∷ [] } ∷ [] }
step s (Joined q f) = with_flight f (joined q) s
step s (Hit q f) = record s { kept = only f s.kept ++ without f s.kept }
step s (Taken q f) = with_flight f (parted q) s
step s (Landed q f size) = record s { flights = change f (came_to size q) s.flights; kept = kept_first f size s.kept }
step s (Lost q f) = with_flight f ended s
step s (Cancelled q) = left_by q s
step s (Closed q) = left_by q s
step s (Evicted f) = record s { kept = without f s.kept }
step s (Refreshed f) = record s { kept = without f s.kept }
step s (Abandoned f) = with_flight f ended s

-- the state behind some entries
unfoldable pub after_from : State → List Entry → State
after_from s [] = s
after_from s (e ∷ es) = after_from (step s e) es

-- the state after a journal
abbrev pub after : List Entry → State
after journal = after_from nothing journal

-- each flying flight has a query that waits in it
abbrev pub AreAwaited : State → Type 0
AreAwaited s = (f : ℕ) (x : Flight) → IsFlight s f x → x.phase ≡ flying → x.queries ≢ []

-- the kept sizes are within the budget, and each flying flight is awaited
pub record IsSettled (budget : ℕ) (s : State) : Type 0 where
  pub within : total_of s.kept ≤ budget
  pub awaited : AreAwaited s

-- no flight flies for the key or is kept for it
abbrev pub IsFreeKey : State → Key → Type 0
IsFreeKey s k = (f : ℕ) (t : Target) → HoldsKey s f t → t.key ≢ k

-- a flight that flies and that nobody awaits
abbrev pub IsAlone : State → ℕ → Type 0
IsAlone s f = (x : Flight) × IsFlight s f x × (x.phase ≡ flying) × (x.queries ≡ [])

-- the least flight that flies and that nobody awaits
abbrev pub IsLeastAlone : State → ℕ → Type 0
IsLeastAlone s f = IsAlone s f × ((g : ℕ) (x : Flight) → g < f → IsFlight s g x → x.phase ≡ flying → x.queries ≢ [])

-- an entry may be written in a state. Where the kept sizes exceed the budget, or a flying flight has no query, no
-- entry may be written but those that mend it
abbrev pub Allowed : ℕ → State → Entry → Type 0
Allowed budget s (Opened q) = IsSettled budget s × (q ≡ length s.live)
Allowed budget s (Began q f t) = IsSettled budget s × IsOpen s q × (f ≡ length s.flights) × IsFreeKey s t.key
Allowed budget s (Joined q f) = IsSettled budget s × IsOpen s q × ((t : Target) × Flies s f t) × ¬ WaitsIn s q f
Allowed budget s (Hit q f) = IsSettled budget s × IsOpen s q × ((t : Target) × IsKept s f t)
Allowed budget s (Taken q f) = IsSettled budget s × IsOpen s q × IsOwed s q f
Allowed budget s (Landed q f size) = IsSettled budget s × IsOpen s q × WaitsIn s q f
Allowed budget s (Lost q f) = IsSettled budget s × IsOpen s q × WaitsIn s q f
Allowed budget s (Cancelled q) = IsSettled budget s × IsOpen s q
Allowed budget s (Closed q) = IsSettled budget s × IsOpen s q
Allowed budget s (Evicted f) = (budget < total_of s.kept) × AreAwaited s × (oldest_of s.kept ≡ Some f)
Allowed budget s (Refreshed f) = IsSettled budget s × ((t : Target) × IsKept s f t × (url : List ℕ) × (t.key ≡ key.Index url))
Allowed budget s (Abandoned f) = (total_of s.kept ≤ budget) × IsLeastAlone s f

-- each entry may be written in the state behind those before it
unfoldable pub LegalFrom : ℕ → State → List Entry → Type 0
LegalFrom budget s [] = ⊤
LegalFrom budget s (e ∷ es) = Allowed budget s e × LegalFrom budget (step s e) es

-- a legal journal for a budget
abbrev pub Legal : ℕ → List Entry → Type 0
Legal budget journal = LegalFrom budget nothing journal
