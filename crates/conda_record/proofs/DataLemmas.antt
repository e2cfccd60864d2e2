-- Whether the members of an object are data, one by one.
use Rattle.std.proofs.Common.{◌≡◌, ℕ, List, ◌&&◌, Option, Some, None, is_some, option_and_then, refl}
use Rattle.json.specs.Json as json
use Rattle.json.specs.Json.{Json}
use Rattle.serde_json.specs.Data.{Data, Members, no_members, put}
use Rattle.serde_json.specs.Read.{of_json, of_members}

then_some : (f g : Data → Option Members) → ((d : Data) → is_some (f d) ≡ is_some (g d)) → (o : Option Data) → is_some (option_and_then f o) ≡ is_some (option_and_then g o)
then_some f g same None = refl
then_some f g same (Some d) = same d

-- what was put in before doesn't matter
any_found : (ms : json.Members) (found other : Members) → is_some (of_members ms found) ≡ is_some (of_members ms other)
any_found json.no_members found other = refl
any_found (json.member k j ms) found other = then_some (λ d. of_members ms (put k d found)) (λ d. of_members ms (put k d other)) (λ d. any_found ms (put k d found) (put k d other)) (of_json j)

-- a member in front
pub member_is_data : (k : List ℕ) (j : Json) (ms : json.Members) → is_some (of_members (json.member k j ms) no_members) ≡ (is_some (of_json j) && is_some (of_members ms no_members))
member_is_data k j ms = go (of_json j)
  where
    go : (o : Option Data) → is_some (option_and_then (λ d. of_members ms (put k d no_members)) o) ≡ (is_some o && is_some (of_members ms no_members))
    go None = refl
    go (Some d) = any_found ms (put k d no_members) no_members
