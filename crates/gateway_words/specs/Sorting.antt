-- A list in an order, where elements that tie stand as they stood.
use Rattle.std.specs.Prelude.{Bool, List, [], ◌∷◌, if◌then◌else◌}

-- x in a sorted list, in front of those that tie with it
abbrev pub placed_by : {X : Type 0} → (X → X → Bool) → X → List X → List X
placed_by lt x [] = x ∷ []
placed_by lt x (y ∷ ys) = if lt y x then y ∷ placed_by lt x ys else x ∷ y ∷ ys

-- the list sorted
abbrev pub sorted_by : {X : Type 0} → (X → X → Bool) → List X → List X
sorted_by lt [] = []
sorted_by lt (x ∷ xs) = placed_by lt x (sorted_by lt xs)
