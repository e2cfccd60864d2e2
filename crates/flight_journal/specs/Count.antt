-- What a journal says of one query, and which fetches it began.
use Rattle.std.specs.Prelude.{◌≡◌, ℕ, ◌+◌, ◌==◌, ◌&&◌, Bool, true, false, not, if◌then◌else◌, List, [], ◌∷◌, ◌++◌, slice_get, Option, Some, None}
use Rattle.std.specs.Option.{is_some}
use Rattle.std.specs.List.{list_any}
use Rattle.link_io.specs.declared.target.Key.{Key}
use Rattle.link_io.specs.declared.target.Target.{Target}
use Rattle.flight_journal.specs.declared.entry.Entry.{Entry}
use Rattle.flight_journal.specs.declared.entry.Entry.TheVariants.{Opened, Began, Joined, Hit, Taken, Landed, Lost, Cancelled, Closed, Evicted, Refreshed, Abandoned}
use Rattle.flight_journal.specs.State.{Phase, flying, landed, gone, Flight, State, is_one_of}
use Rattle.flight_journal.specs.Journal.{step}

-- x stands somewhere in the list
abbrev pub Among : {X : Type 0} → X → List X → Type 0
Among x xs = (place : ℕ) × (slice_get xs place ≡ Some x)

-- nothing stands twice in the list
abbrev pub IsOnce : {X : Type 0} → List X → Type 0
IsOnce {X} xs = (here there : ℕ) (x : X) → slice_get xs here ≡ Some x → slice_get xs there ≡ Some x → here ≡ there

-- the targets of the flights that were begun, in order
abbrev pub begun_in : List Entry → List Target
begun_in [] = []
begun_in (Began q f t ∷ es) = t ∷ begun_in es
begun_in (_ ∷ es) = begun_in es

-- the query that an entry names, if it names one
abbrev pub query_in : Entry → Option ℕ
query_in (Opened q) = Some q
query_in (Began q f t) = Some q
query_in (Joined q f) = Some q
query_in (Hit q f) = Some q
query_in (Taken q f) = Some q
query_in (Landed q f size) = Some q
query_in (Lost q f) = Some q
query_in (Cancelled q) = Some q
query_in (Closed q) = Some q
query_in (Evicted f) = None
query_in (Refreshed f) = None
query_in (Abandoned f) = None

-- whether an optional number is this one
abbrev pub is_this : ℕ → Option ℕ → Bool
is_this q None = false
is_this q (Some p) = p == q

-- whether an entry names a query
abbrev pub names : ℕ → Entry → Bool
names q e = is_this q (query_in e)

-- one for a test that is met
abbrev pub one_if : Bool → ℕ
one_if b = if b then 1 else 0

-- how many entries name the query
abbrev pub calls_of : ℕ → List Entry → ℕ
calls_of q [] = 0
calls_of q (e ∷ es) = one_if (names q e) + calls_of q es

-- the query that lost a flight by an entry
abbrev pub loser_in : Entry → Option ℕ
loser_in (Lost q f) = Some q
loser_in _ = None

-- how many flights the query lost
abbrev pub losses_of : ℕ → List Entry → ℕ
losses_of q [] = 0
losses_of q (e ∷ es) = one_if (is_this q (loser_in e)) + losses_of q es

-- the query that asked for a key by an entry: it began a flight, joined one or took what is kept
abbrev pub asker_in : Entry → Option ℕ
asker_in (Began q f t) = Some q
asker_in (Joined q f) = Some q
asker_in (Hit q f) = Some q
asker_in _ = None

-- how many keys the query asked for
abbrev pub asked_of : ℕ → List Entry → ℕ
asked_of q [] = 0
asked_of q (e ∷ es) = one_if (is_this q (asker_in e)) + asked_of q es

-- the key of a flight
abbrev pub key_in : Option Flight → List Key
key_in None = []
key_in (Some x) = x.target.key ∷ []

-- these, for a test that is met
abbrev pub only_if : {X : Type 0} → Bool → List X → List X
only_if b xs = if b then xs else []

-- the key that a query asked for by an entry
abbrev pub asked_in : ℕ → State → Entry → List Key
asked_in q s (Began p f t) = only_if (p == q) (t.key ∷ [])
asked_in q s (Joined p f) = only_if (p == q) (key_in (slice_get s.flights f))
asked_in q s (Hit p f) = only_if (p == q) (key_in (slice_get s.flights f))
asked_in q s _ = []

-- the keys that the query asked for, in order, from a state on
unfoldable pub asks_from : ℕ → State → List Entry → List Key
asks_from q s [] = []
asks_from q s (e ∷ es) = asked_in q s e ++ asks_from q (step s e) es

-- whether a flight came to a value without a size
abbrev pub is_wreck : Option Flight → Bool
is_wreck None = false
is_wreck (Some x) = without_size x.phase
  where
    without_size : Phase → Bool
    without_size (landed size) = not (is_some size)
    without_size flying = false
    without_size gone = false

-- the flight without a size that a query landed or took by an entry
abbrev pub wrecked_in : ℕ → State → Entry → List ℕ
wrecked_in q s (Landed p f None) = only_if (p == q) (f ∷ [])
wrecked_in q s (Landed p f (Some size)) = []
wrecked_in q s (Taken p f) = only_if (p == q) (only_if (is_wreck (slice_get s.flights f)) (f ∷ []))
wrecked_in q s _ = []

-- the flights without a size that the query landed or took, in order, from a state on
unfoldable pub wrecks_from : ℕ → State → List Entry → List ℕ
wrecks_from q s [] = []
wrecks_from q s (e ∷ es) = wrecked_in q s e ++ wrecks_from q (step s e) es

-- whether an entry lands this flight without a size
abbrev pub wrecks_flight : ℕ → Entry → Bool
wrecks_flight f (Landed q g None) = g == f
wrecks_flight f (Landed q g (Some size)) = false
wrecks_flight f _ = false

-- whether one of these entries does
abbrev pub is_wrecked_by : ℕ → List Entry → Bool
is_wrecked_by f es = list_any (wrecks_flight f) es

-- whether the query landed or took, by an entry behind others, a flight that landed without a size
abbrev pub meets_wreck : ℕ → List Entry → Entry → Bool
meets_wreck q before (Landed p f None) = p == q
meets_wreck q before (Landed p f (Some size)) = false
meets_wreck q before (Taken p f) = (p == q) && is_wrecked_by f before
meets_wreck q before _ = false

-- how many of these entries, which stand behind others, are so
abbrev pub wrecks_met : ℕ → List Entry → List Entry → ℕ
wrecks_met q before [] = 0
wrecks_met q before (e ∷ es) = one_if (meets_wreck q before e) + wrecks_met q (before ++ e ∷ []) es

-- whether a flight is lost by an entry, if it is one of these
abbrev pub loses_one_of : List ℕ → Entry → Bool
loses_one_of flights (Lost q f) = is_one_of f flights
loses_one_of flights _ = false

-- in how many entries one of these flights is lost
abbrev pub losses_among : List ℕ → List Entry → ℕ
losses_among flights [] = 0
losses_among flights (e ∷ es) = one_if (loses_one_of flights e) + losses_among flights es

-- whether each flight holds its key behind an entry if it did before: none is lost, evicted, refreshed or abandoned, no query
-- is cancelled, and what lands has a size
abbrev pub keeps_keys : Entry → Bool
keeps_keys (Landed q f size) = is_some size
keeps_keys (Lost q f) = false
keeps_keys (Cancelled q) = false
keeps_keys (Evicted f) = false
keeps_keys (Refreshed f) = false
keeps_keys (Abandoned f) = false
keeps_keys _ = true
