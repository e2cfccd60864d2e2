-- Laws of what a request reaches, and of its closure.
use Rattle.std.specs.Prelude.{◌≡◌, ◌⊎◌, None, ℕ, suc, ◌<◌, Bool, true, false, List, [], ◌++◌, length, Some, is_some}
use Rattle.std.specs.List.{IsDistinct, list_all}
use Rattle.shard_index.specs.Index as indexes
use Rattle.closure_request.specs.Request.{Asking, root_names}
use Rattle.closure_request.specs.Slots.{slots}
use Rattle.closure_plan.specs.Names.{Name, has_name}
use Rattle.closure_plan.specs.Rounds.{rounds}
use Rattle.closure_plan.specs.Given.{Pins, LeafRows, pin_at, rows_at, wanted, given}
use Rattle.closure_plan.specs.Needs.{Wish, is_given, is_askable, needs, next_wish, same_wish}
use Rattle.closure_plan.specs.Closure.{Found, leads_to, reach, found, closure}

-- ---- rounds

-- a further round keeps each name
abbrev pub RoundsGrow : Type 0
RoundsGrow = (next : Name → List Name) (k : ℕ) (names : List Name) (q : Name)
    → has_name (rounds next k names) q ≡ true → has_name (rounds next (suc k) names) q ≡ true

-- after as many rounds as there are different names that rows depend on, no number of further rounds adds a name
abbrev pub NothingIsAdded : Type 0
NothingIsAdded = (r : Asking) (pins : Pins) (leaves : List LeafRows) → r.flat ≡ false
    → (k : ℕ) → rounds (leads_to r pins leaves) k (reach r pins leaves) ≡ reach r pins leaves

-- names that have the root names, and all that they lead to, have all that is reached
abbrev pub ReachIsLeast : Type 0
ReachIsLeast = (r : Asking) (pins : Pins) (leaves : List LeafRows) (names : List Name)
    → ((q : Name) → has_name (root_names r) q ≡ true → has_name names q ≡ true)
    → ((n q : Name) → has_name names n ≡ true → has_name (leads_to r pins leaves n) q ≡ true → has_name names q ≡ true)
    → (q : Name) → has_name (reach r pins leaves) q ≡ true → has_name names q ≡ true

-- ---- the closure is what is given

-- each given row of a reached name is in the closure: a test that all of the closure passes is passed by it
abbrev pub GivenIsInClosure : Type 0
GivenIsInClosure = (r : Asking) (pins : Pins) (leaves : List LeafRows) (test : Found → Bool) → list_all test (closure r pins leaves) ≡ true
    → (s : ℕ) (n : Name) → s < length (slots r) → has_name (reach r pins leaves) n ≡ true → list_all (λ row. test (found r s row)) (given r pins leaves s n) ≡ true

-- each row of the closure is given: a test that each given row of each reached name passes is passed by all of the closure
abbrev pub ClosureIsGiven : Type 0
ClosureIsGiven = (r : Asking) (pins : Pins) (leaves : List LeafRows) (test : Found → Bool)
    → ((s : ℕ) (n : Name) → s < length (slots r) → has_name (reach r pins leaves) n ≡ true → list_all (λ row. test (found r s row)) (given r pins leaves s n) ≡ true)
    → list_all test (closure r pins leaves) ≡ true

-- ---- more pins, more leaves

-- each slot that is pinned by the one is pinned alike by the other
abbrev pub Extends : Pins → Pins → Type 0
Extends pins more = (t : ℕ) (index : indexes.Contents) → pin_at pins t ≡ Some index → pin_at more t ≡ Some index

-- what is wanted stays wanted, with its digest
abbrev pub WantedStays : Type 0
WantedStays = (r : Asking) (pins more : Pins) → Extends pins more
    → (s : ℕ) (n : Name) → is_some (wanted r pins s n) ≡ true → wanted r more s n ≡ wanted r pins s n

-- what is given of a name in a slot was nothing, or stays as it was
abbrev pub GivenStays : Type 0
GivenStays = (r : Asking) (pins more : Pins) (leaves later : List LeafRows) → Extends pins more
    → (s : ℕ) (n : Name) → (given r pins leaves s n ≡ []) ⊎ (given r more (leaves ++ later) s n ≡ given r pins leaves s n)

-- what is reached stays reached
abbrev pub ReachStays : Type 0
ReachStays = (r : Asking) (pins more : Pins) (leaves later : List LeafRows) → Extends pins more
    → (q : Name) → has_name (reach r pins leaves) q ≡ true → has_name (reach r more (leaves ++ later)) q ≡ true

-- ---- the order of arrival, and a world

-- leaves in another order, with the same rows of each name in each slot, have the same closure
abbrev pub OrderChangesNothing : Type 0
OrderChangesNothing = (r : Asking) (pins : Pins) (leaves others : List LeafRows)
    → ((s : ℕ) (n : Name) → rows_at others s n ≡ rows_at leaves s n) → closure r pins others ≡ closure r pins leaves

-- a world has all indexes and shards; where the same is wanted, and each leaf that is wanted of a reached name has the
-- world's rows, the closure is that of the world
abbrev pub ClosureIsThatOfWorld : Type 0
ClosureIsThatOfWorld = (r : Asking) (pins world_pins : Pins) (leaves world : List LeafRows)
    → ((s : ℕ) (n : Name) → is_some (wanted r world_pins s n) ≡ is_some (wanted r pins s n))
    → ((s : ℕ) (n : Name) → has_name (reach r pins leaves) n ≡ true → is_some (wanted r pins s n) ≡ true → rows_at world s n ≡ rows_at leaves s n)
    → closure r world_pins world ≡ closure r pins leaves

-- ---- the end

-- where nothing is marked and no need may be asked for, each need is given
abbrev pub EndIsDone : Type 0
EndIsDone = (r : Asking) (pins : Pins) (leaves : List LeafRows)
    → next_wish r pins leaves [] ≡ None → list_all (is_given pins leaves) (needs r pins leaves) ≡ true

-- the need to ask for next is one that may be asked for: it is not given, and no marked need has its key
abbrev pub NextIsAskable : Type 0
NextIsAskable = (r : Asking) (pins : Pins) (leaves : List LeafRows) (marked : List Wish) (need : Wish)
    → next_wish r pins leaves marked ≡ Some need → is_askable r pins leaves marked need ≡ true

-- ---- the needs

-- no need stands twice
abbrev pub NeedsAreOnce : Type 0
NeedsAreOnce = (r : Asking) (pins : Pins) (leaves : List LeafRows) → IsDistinct same_wish (needs r pins leaves)
