-- The names of the specs of a request, each with its specs.
use Rattle.std.specs.Prelude.{◌≡◌, ℕ, ◌<◌, List, [], ◌∷◌, ◌++◌, take, length, Option, Some, None, if◌then◌else◌}
use Rattle.std.specs.List.{IsDistinct, filter, flat_map, slice_get, slice_index_or, slice_set}
use Rattle.std.specs.Option.{option_to_list}
use Rattle.match_spec.specs.Parts.{Meaning}
use Rattle.closure_request.specs.Request.{root_names_of}
use Rattle.closure_plan.specs.Names.{Name, is_name, has_name}

-- the specs of some numbers
abbrev pub specs_at : List Meaning → List ℕ → List Meaning
specs_at specs numbers = flat_map (λ k. option_to_list (slice_get specs k)) numbers

-- the specs of a name
abbrev pub specs_of : Name → List Meaning → List Meaning
specs_of n specs = filter (λ (spec : Meaning). is_name n spec.name) specs

-- the specs of a name, where some spec has it
abbrev pub asked_of : List Meaning → Name → Option (List Meaning)
asked_of specs n = if has_name (root_names_of specs) n then Some (specs_of n specs) else None

-- names, and the numbers of the specs of each
pub record Roots : Type 0 where
  pub names : List Name
  pub specs : List (List ℕ)

-- with the number of a spec more for a name
abbrev pub with_spec : ℕ → ℕ → Roots → Roots
with_spec k i r = record { names = r.names; specs = slice_set r.specs k (slice_index_or r.specs k [] ++ i ∷ []) }

-- with a name more, of which this is the number of the first spec
abbrev pub with_root : Name → ℕ → Roots → Roots
with_root n i r = record { names = r.names ++ n ∷ []; specs = r.specs ++ (i ∷ []) ∷ [] }

-- the names of the first specs, so many, each once, and the numbers of the specs of each of them
pub record AreRoots (specs : List Meaning) (count : ℕ) (r : Roots) : Type 0 where
  pub distinct : IsDistinct is_name r.names
  pub same : (n : Name) → has_name r.names n ≡ has_name (root_names_of (take count specs)) n
  pub each : (k : ℕ) → k < length r.names → specs_at specs (slice_index_or r.specs k []) ≡ specs_of (slice_index_or r.names k []) (take count specs)
