-- What an entry that names another query leaves of a flight.
use Rattle.std.specs.Prelude.{◌≡◌, ◌⊎◌, ℕ, [], true, ◌≢◌}
use Rattle.flight_journal.specs.declared.entry.Entry.{Entry}
use Rattle.flight_journal.specs.declared.entry.Entry.TheVariants.{Lost}
use Rattle.flight_journal.specs.State.{flying, Flight, is_one_of, is_landed}

-- the flight stays as it was, or it flew and landed, or nobody awaits it
abbrev pub GoesOn : Flight → Flight → Type 0
GoesOn old new = (new.phase ≡ old.phase) ⊎ (((old.phase ≡ flying) × (is_landed new.phase ≡ true)) ⊎ (old.queries ≡ []))

-- for a query the flight goes on: it has its target, and the query awaits it as before
pub record FliesOn (query : ℕ) (old new : Flight) : Type 0 where
  pub target : new.target ≡ old.target
  pub awaited : is_one_of query new.queries ≡ is_one_of query old.queries
  pub phase : GoesOn old new

-- another query lost the flight by this entry
abbrev pub IsLostBy : ℕ → ℕ → Entry → Type 0
IsLostBy query f e = (other : ℕ) × (e ≡ Lost other f) × (other ≢ query)
