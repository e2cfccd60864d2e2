-- What events do to a world.
use Rattle.std.specs.Prelude.{◌≡◌, ◌&&◌, ◌⊎◌, nat_lt, length, slice_get, slice_set, ℕ, Bool, true, List, [], Some}
use Rattle.std.specs.List.{slice_index_or}
use Rattle.link_io.specs.Conn.{LinkFacts}
use Rattle.link_io.specs.Origin.{Origin}
use Rattle.channel_url.specs.Addresses.{index_url}
use Rattle.closure_request.specs.Request.{Asking}
use Rattle.flight_rows.specs.Serves.{Refreshes}
use Rattle.flight_table.specs.Doors.{cancelling_door, refreshing_door}
use Rattle.flight_table.specs.Follows.{LeavesTable}
use Rattle.query_future.specs.Queries.{Queried}
use Rattle.gateway_core.specs.declared.world.Event.{Event}
use Rattle.gateway_core.specs.declared.world.Event.TheVariants.{Opened, Turn, Cancel, Refresh}
use Rattle.gateway_core.specs.declared.world.Place.{Place}
use Rattle.gateway_core.specs.declared.world.Place.TheVariants.{Running, Unopened, Cancelled}
use Rattle.gateway_core.specs.declared.world.World.{World}
use Rattle.gateway_core.specs.Places.{OpensTo, TurnsTo, is_idle, is_running, is_unopened}
use Rattle.gateway_core.specs.Sound.{Fits, IsSound, no_site}

module _ {N D L : Type 0} where
  -- whether an event may happen
  abbrev pub is_enabled : World N D L → Event → Bool
  is_enabled w (Opened i) = is_unopened (slice_get w.places.items i)
  is_enabled w (Turn i) = is_running (slice_get w.places.items i)
  is_enabled w (Cancel i) = is_idle (slice_get w.places.items i)
  is_enabled w (Refresh c s) = nat_lt c (length w.channels.items) && nat_lt s (length w.subdirs.items)

  -- the channels and subdirs stay
  pub record KeepsNames (old new : World N D L) : Type 0 where
    pub channels : new.channels.items ≡ old.channels.items
    pub subdirs : new.subdirs.items ≡ old.subdirs.items

  -- the query of a place was given up
  pub record CancelledAt (i : ℕ) (old new : World N D L) : Type 0 where
    pub query : Queried L
    pub was : slice_get old.places.items i ≡ Some (Running query)
    pub is : new.places.items ≡ slice_set old.places.items i Cancelled
    pub leaves : LeavesTable old.table new.table query.track.pass
    pub door : new.door ≡ cancelling_door old.door

  -- the address of an index of a world
  abbrev pub index_at : World N D L → ℕ → ℕ → List ℕ
  index_at w c s = index_url (slice_index_or w.channels.items c no_site).base (slice_index_or w.subdirs.items s [])

  -- the kept index of an address was given up, or there is none; or there was no memory for the address, and nothing happened
  pub record RefreshedAt (c s : ℕ) (old new : World N D L) : Type 0 where
    pub is : new.places.items ≡ old.places.items
    pub does : ((given_up : Bool) × Refreshes (index_at old c s) old.table new.table given_up × (new.door ≡ refreshing_door given_up old.door))
        ⊎ ((new.table ≡ old.table) × (new.door ≡ old.door))

  module _ (facts : L → LinkFacts) (from : L → Origin → Type 0) where
    -- the query of a place did its due section
    pub record TurnedAt (i : ℕ) (old new : World N D L) : Type 0 where
      pub query : Queried L
      pub place : Place N D L
      pub was : slice_get old.places.items i ≡ Some (Running query)
      pub is : new.places.items ≡ slice_set old.places.items i place
      pub turns : TurnsTo facts from old.table new.table query place
      pub door : new.door ≡ old.door

    -- the request of a place entered the table, or there was no memory for it
    pub record OpenedAt (i : ℕ) (old new : World N D L) : Type 0 where
      pub request : Asking
      pub place : Place N D L
      pub was : slice_get old.places.items i ≡ Some (Unopened request)
      pub is : new.places.items ≡ slice_set old.places.items i place
      pub opens : OpensTo facts from old.table new.table old.door new.door request place

    -- what an event that may happen does
    abbrev pub Does : Event → World N D L → World N D L → Type 0
    Does (Opened i) old new = OpenedAt i old new
    Does (Turn i) old new = TurnedAt i old new
    Does (Cancel i) old new = CancelledAt i old new
    Does (Refresh c s) old new = RefreshedAt c s old new

    -- what every event keeps: the world is sound, and of the requests that it was of
    pub record Keeps (old new : World N D L) : Type 0 where
      pub sound : IsSound facts from new
      pub fits : (rs : List Asking) → Fits rs old → Fits rs new
      pub names : KeepsNames old new
