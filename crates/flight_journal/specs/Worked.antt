-- Two worked journals.
use Rattle.std.specs.Prelude.{ℕ, List, [], ◌∷◌, Some}
use Rattle.link_io.specs.declared.target.Key.TheVariants as key
use Rattle.link_io.specs.declared.target.Target.{Target}
use Rattle.flight_journal.specs.declared.entry.Entry.{Entry}
use Rattle.flight_journal.specs.declared.entry.Entry.TheVariants.{Opened, Began, Joined, Hit, Landed, Taken, Cancelled, Closed, Evicted}

-- the index at an address of one byte
abbrev pub index_at : ℕ → Target
index_at n = record { key = key.Index (n ∷ []); url = n ∷ [] }

-- with a budget of 10: two flights of size 6 land, of which the second evicts the first
abbrev pub two_landings : List Entry
two_landings =
    Opened 0 ∷ Opened 1 ∷ Began 0 0 (index_at 0) ∷ Began 0 1 (index_at 1) ∷ Landed 0 0 (Some 6) ∷ Landed 0 1 (Some 6) ∷ Evicted 0 ∷ []

-- then one of size 11, in which another query waits: it lands, both are evicted, and its value is still taken
abbrev pub an_oversized_landing : List Entry
an_oversized_landing =
    Began 0 2 (index_at 2) ∷ Joined 1 2 ∷ Landed 0 2 (Some 11) ∷ Evicted 1 ∷ Evicted 2 ∷ Taken 1 2 ∷ []

-- two queries for one index and one shard's worth: the second takes the first's index from what is kept, joins its second
-- flight, and lands it when the first is cancelled
abbrev pub a_joined_flight : List Entry
a_joined_flight =
    Opened 0 ∷ Began 0 0 (index_at 0) ∷ Landed 0 0 (Some 4) ∷ Began 0 1 (index_at 1) ∷ Opened 1 ∷ Hit 1 0 ∷ Joined 1 1 ∷ Cancelled 0 ∷ Landed 1 1 (Some 5) ∷ Closed 1 ∷ []
