-- What a list of events does.
use Rattle.std.specs.Prelude.{◌≡◌, ℕ, true, false, List, [], ◌∷◌, map, take, slice_get, Some}
use Rattle.link_io.specs.Conn.{LinkFacts}
use Rattle.link_io.specs.Origin.{Origin}
use Rattle.link_io.specs.declared.target.Target.{Target}
use Rattle.closure_request.specs.Request.{Asking}
use Rattle.flight_table.specs.Doors.{first_door}
use Rattle.gateway_core.specs.declared.world.Event.{Event}
use Rattle.gateway_core.specs.declared.world.Place.TheVariants.{Unopened}
use Rattle.gateway_core.specs.declared.world.ScheduleRefusal.{ScheduleRefusal}
use Rattle.gateway_core.specs.declared.world.ScheduleRefusal.TheVariants as refusal
use Rattle.gateway_core.specs.declared.world.World.{World}
use Rattle.gateway_core.specs.Events.{Does, is_enabled}
use Rattle.gateway_core.specs.Sound.{Fits, IsSound, first_channels, first_subdirs}

-- a world before its first event: a new table with its door, and a place for each request, at which it waits
pub record Begins {N D L : Type 0} (keep : ℕ) (dialed : List Target) (origin : Origin) (rs : List Asking) (w : World N D L) : Type 0 where
  pub table : w.table ≡ record { journal = []; keep = keep; start = dialed; dialed = dialed; origin = origin; hands = [] }
  pub door : w.door ≡ first_door keep dialed origin
  pub places : w.places.items ≡ map Unopened rs
  pub channels : w.channels.items ≡ first_channels rs
  pub subdirs : w.subdirs.items ≡ first_subdirs rs

module _ {N D L : Type 0} (facts : L → LinkFacts) (from : L → Origin → Type 0) where
  -- each event might happen, and did what it does, in order
  abbrev pub Ran : List Event → World N D L → World N D L → Type 0
  Ran [] w v = v ≡ w
  Ran (e ∷ es) w v = (u : World N D L) × (is_enabled w e ≡ true) × Does facts from e w u × Ran es u v

  -- the events before the one of this number ran, and that one may not happen
  pub record Stopped (es : List Event) (w : World N D L) (n : ℕ) (v : World N D L) : Type 0 where
    pub event : Event
    pub at : slice_get es n ≡ Some event
    pub ran : Ran (take n es) w v
    pub refused : is_enabled v event ≡ false

  -- the events ran from such a world on
  pub record Runs (keep : ℕ) (dialed : List Target) (origin : Origin) (rs : List Asking) (es : List Event) (w : World N D L) : Type 0 where
    pub first : World N D L
    pub begins : Begins keep dialed origin rs first
    pub ran : Ran es first w
    pub sound : IsSound facts from w
    pub fits : Fits rs w

  -- why they did not: the event of a number may not happen in the world before it; or there was no memory for the first world,
  -- and the dialer is as it was
  abbrev pub IsRefused : D → (D → List Target) → (D → Origin) → ℕ → List Asking → List Event → ScheduleRefusal N D L → Type 0
  IsRefused dial dialed_of origin_of keep rs es (refusal.NotEnabled n w) =
      (u : World N D L) × Begins keep (dialed_of dial) (origin_of dial) rs u × Stopped es u n w × IsSound facts from w × Fits rs w
  IsRefused dial dialed_of origin_of keep rs es (refusal.Memory d) = d ≡ dial

  -- the same of events alone, from some world on
  abbrev pub IsStopped : World N D L → List Event → ScheduleRefusal N D L → Type 0
  IsStopped w es (refusal.NotEnabled n v) = Stopped es w n v × IsSound facts from v × ((rs : List Asking) → Fits rs w → Fits rs v)
  IsStopped w es (refusal.Memory d) = ⊥
