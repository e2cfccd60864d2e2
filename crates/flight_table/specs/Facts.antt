-- What a pass and a door say. They are plain data that contracts alone see.
use Rattle.std.specs.Prelude.{◌≢◌, ℕ, ◌+◌, ◌==◌, Bool, true, false, if◌then◌else◌, List, [], ◌∷◌, ◌++◌, map, Option, Some, None}
use Rattle.std.specs.List.{list_any}
use Rattle.link_io.specs.Origin.{Origin}
use Rattle.link_io.specs.declared.target.Key.{Key}
use Rattle.link_io.specs.declared.target.Target.{Target}
use Rattle.flight_journal.specs.Count.{Among, IsOnce}

-- what a pass says of its query: how many entries name it, whether it is open, the keys that it asked for, how many flights
-- it lost, the flights without a size that it landed or took, those that others lost while it awaited them, the flight whose
-- parcel it has in hand, the flights that it awaits with their targets; and the length of the dialer's list at the start, and
-- where connections are from
pub record Facts : Type 0 where
  pub query : ℕ
  pub calls : ℕ
  pub live : Bool
  pub asks : List Key
  pub losses : ℕ
  pub wrecks : List ℕ
  pub lost : List ℕ
  pub hand : Option ℕ
  pub awaits : List (ℕ × Target)
  pub base : ℕ
  pub origin : Origin

-- the pass of a query that has just opened
abbrev pub new_pass : ℕ → ℕ → Origin → Facts
new_pass query base origin =
    record { query = query; calls = 1; live = true; asks = []; losses = 0; wrecks = []; lost = []; hand = None; awaits = []; base = base; origin = origin }

-- the pass of a query that has just left
abbrev pub left_pass : Facts → Facts
left_pass p = record p { calls = p.calls + 1; live = false; awaits = [] }

-- the pass of a query that has just taken what is kept under a key
abbrev pub hit_pass : Key → Facts → Facts
hit_pass key p = record p { calls = p.calls + 1; asks = p.asks ++ key ∷ [] }

-- the pass of a query that has just begun or joined a flight for a target
abbrev pub awaiting_pass : ℕ → Target → Facts → Facts
awaiting_pass f target p =
    record p { calls = p.calls + 1; asks = p.asks ++ target.key ∷ []; awaits = p.awaits ++ (f, target) ∷ [] }

-- some awaited flights without one of them
pub record IsWithout (f : ℕ) (old rest : List (ℕ × Target)) : Type 0 where
  pub same : (g : ℕ) (t : Target) → g ≢ f → Among (g, t) old → Among (g, t) rest
  pub only : (g : ℕ) (t : Target) → Among (g, t) rest → Among (g, t) old × (g ≢ f)
  pub once : IsOnce (map (λ a. a.0) rest)

-- the flight without a size, if it is one
abbrev pub wreck_of : ℕ → Option ℕ → List ℕ
wreck_of f None = f ∷ []
wreck_of f (Some size) = []

-- the pass of a query that has just landed a flight, and awaits the rest
abbrev pub landed_pass : ℕ → Option ℕ → List (ℕ × Target) → Facts → Facts
landed_pass f size rest p = record p { calls = p.calls + 1; wrecks = p.wrecks ++ wreck_of f size; hand = None; awaits = rest }

-- the pass of a query that has just lost a flight, and awaits the rest
abbrev pub lost_pass : List (ℕ × Target) → Facts → Facts
lost_pass rest p = record p { calls = p.calls + 1; losses = p.losses + 1; hand = None; awaits = rest }

-- the pass of a query that has just taken an owed value, which may be a wreck, and awaits the rest
abbrev pub taken_pass : List ℕ → List (ℕ × Target) → Facts → Facts
taken_pass wreck rest p = record p { calls = p.calls + 1; wrecks = p.wrecks ++ wreck; awaits = rest }

-- these awaited flights but one
abbrev pub awaits_but : ℕ → List (ℕ × Target) → List (ℕ × Target)
awaits_but f [] = []
awaits_but f (a ∷ awaits) = if a.0 == f then awaits_but f awaits else a ∷ awaits_but f awaits

-- whether a flight is among these
abbrev pub is_awaited : ℕ → List (ℕ × Target) → Bool
is_awaited f awaits = list_any (λ a. a.0 == f) awaits

-- the pass of a query that has just taken a parcel in hand, and one that has just put it back
abbrev pub holding_pass : ℕ → Facts → Facts
holding_pass f p = record p { hand = Some f }

-- the pass of a query that holds no parcel any more
abbrev pub freed_pass : Facts → Facts
freed_pass p = record p { hand = None }

-- the pass of a query that has just found an awaited flight lost by another query
abbrev pub missed_pass : ℕ → Facts → Facts
missed_pass f p = record p { awaits = awaits_but f p.awaits; lost = p.lost ++ f ∷ [] }

-- the same of any flight; one that is not awaited changes nothing
abbrev pub missing_pass : ℕ → Facts → Facts
missing_pass f p = if is_awaited f p.awaits then missed_pass f p else p
