-- Places, and what a turn and an opening make of one.
use Rattle.std.specs.Prelude.{◌≡◌, ℕ, Bool, true, false, not, slice_get, List, [], Option, Some, None}
use Rattle.link_io.specs.Conn.{LinkFacts}
use Rattle.link_io.specs.Origin.{Origin}
use Rattle.closure_request.specs.Request.{Asking}
use Rattle.flight_rows.specs.Sight.{Sight}
use Rattle.flight_table.specs.Doors.{Gate, TellsDoor, opening_door}
use Rattle.flight_table.specs.Facts.{Facts}
use Rattle.flight_table.specs.Follows.{Enters}
use Rattle.query_needs.specs.Targets.{IsFormed}
use Rattle.query_future.specs.declared.parts.Did.{Did}
use Rattle.query_future.specs.declared.parts.Finished.{Finished}
use Rattle.query_future.specs.declared.parts.Outcome.TheVariants as outcome
use Rattle.query_future.specs.Dues.{no_counts}
use Rattle.query_future.specs.Queries.{HadRequest, IsQuery, Queried, Stood, Turns, is_in_hand}
use Rattle.query_future.specs.Stands.{Carries, HasRequest}
use Rattle.gateway_core.specs.declared.world.Place.{Place}
use Rattle.gateway_core.specs.declared.world.Place.TheVariants.{Unopened, Running, Done, Cancelled}

-- what a query came to that never entered: it had no memory, and did nothing
pub record IsNothing {L : Type 0} (f : Finished L) : Type 0 where
  pub outcome : f.outcome ≡ outcome.Memory
  pub query : f.query ≡ None
  pub calls : f.calls ≡ 0
  pub again : f.again ≡ 0
  pub asked : f.asked.items ≡ []

-- a closed pass, and what its query came to
pub record IsOver {L : Type 0} (facts : L → LinkFacts) (from : L → Origin → Type 0) (p : Facts) (f : Finished L) : Type 0 where
  pub closed : p.live ≡ false
  pub query : f.query ≡ Some p.query
  pub calls : f.calls ≡ p.calls
  pub stood : Stood facts from f.outcome p f.asked.items f.again

module _ {N D L : Type 0} where
  -- what the pass of a place says
  abbrev pub facts_in : Place N D L → Option Facts
  facts_in (Unopened r) = None
  facts_in (Running q) = Some q.track.pass
  facts_in (Done p f) = p
  facts_in Cancelled = None

  abbrev pub facts_of : Option (Place N D L) → Option Facts
  facts_of None = None
  facts_of (Some p) = facts_in p

  -- what the pass of the place of a number says
  abbrev pub facts_at : List (Place N D L) → ℕ → Option Facts
  facts_at ps i = facts_of (slice_get ps i)

  -- whether a request waits there
  abbrev pub is_unopened : Option (Place N D L) → Bool
  is_unopened None = false
  is_unopened (Some (Unopened r)) = true
  is_unopened (Some (Running q)) = false
  is_unopened (Some (Done p f)) = false
  is_unopened (Some Cancelled) = false

  -- whether a query runs there
  abbrev pub is_running : Option (Place N D L) → Bool
  is_running None = false
  is_running (Some (Unopened r)) = false
  is_running (Some (Running q)) = true
  is_running (Some (Done p f)) = false
  is_running (Some Cancelled) = false

  -- whether a query runs there that has nothing in hand
  abbrev pub is_idle : Option (Place N D L) → Bool
  is_idle None = false
  is_idle (Some (Unopened r)) = false
  is_idle (Some (Running q)) = not (is_in_hand q.hand)
  is_idle (Some (Done p f)) = false
  is_idle (Some Cancelled) = false

  -- the place has this request, where it has one
  abbrev pub IsFor : Asking → Place N D L → Type 0
  IsFor r (Unopened q) = q ≡ r
  IsFor r (Running q) = HasRequest r q.work
  IsFor r (Done p f) = HadRequest r f.outcome
  IsFor r Cancelled = Unit {0}

  module _ (facts : L → LinkFacts) (from : L → Origin → Type 0) where
    -- a request that waits is well formed; a query that runs is one, and open; an outcome stands beside its closed pass
    abbrev pub IsWell : Place N D L → Type 0
    IsWell (Unopened r) = IsFormed r
    IsWell (Running q) = IsQuery facts from q × (q.track.pass.live ≡ true)
    IsWell (Done None f) = IsNothing f
    IsWell (Done (Some p) f) = IsOver facts from p f
    IsWell Cancelled = Unit {0}

    -- one turn of a query: it runs on, or it is over, with the same request
    abbrev pub TurnsTo : Sight → Sight → Queried L → Place N D L → Type 0
    TurnsTo s t q (Unopened r) = ⊥
    TurnsTo s t q (Running p) = (d : Did) × Turns facts from s t q p d × (p.track.pass.live ≡ true)
    TurnsTo s t q (Done None f) = ⊥
    TurnsTo s t q (Done (Some p) f) =
        Carries s t q.track.pass p × IsOver facts from p f × ((r : Asking) → HasRequest r q.work → HadRequest r f.outcome)
    TurnsTo s t q Cancelled = ⊥

    -- a request enters a table through its door: it runs and did nothing yet, or there was no memory for it
    abbrev pub OpensTo : Sight → Sight → Gate → Gate → Asking → Place N D L → Type 0
    OpensTo s t d e r (Unopened q) = ⊥
    OpensTo s t d e r (Running q) =
        Enters s t q.track.pass × IsQuery facts from q × (q.track.pass.live ≡ true) × HasRequest r q.work × (q.counts ≡ no_counts)
        × (e ≡ opening_door d) × TellsDoor t e
    OpensTo s t d e r (Done None f) = IsNothing f × (t ≡ s) × (e ≡ d)
    OpensTo s t d e r (Done (Some p) f) = ⊥
    OpensTo s t d e r Cancelled = ⊥
