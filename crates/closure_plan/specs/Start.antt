-- A plan at its start.
use Rattle.std.specs.Prelude.{◌≡◌, ℕ, zero, suc, List, [], ◌∷◌, map, length, Option, None}
use Rattle.std.specs.List.{range_with_len}
use Rattle.closure_plan.specs.declared.sources.Place.{Place}
use Rattle.closure_request.specs.Request.{Asking}
use Rattle.closure_request.specs.Slots.{slots}
use Rattle.closure_plan.specs.Plan.{Planned}

-- the slots of a channel, by number
abbrev pub places_in : ℕ → ℕ → List Place
places_in subdirs c = map (λ d. record { channel = c; subdir = d }) (range_with_len 0 subdirs)

-- as many slots without a pin
abbrev pub unpinned : {P : Type 0} → ℕ → List (Option P)
unpinned zero = []
unpinned (suc n) = None ∷ unpinned n

-- nothing is pinned, given or marked
pub record IsUntouched {P H : Type 0} (r : Asking) (seen : Planned P H) : Type 0 where
  pub request : seen.known.request ≡ r
  pub pins : seen.known.pins ≡ unpinned (length (slots r))
  pub leaves : seen.known.leaves ≡ []
  pub marked : seen.marked ≡ []
