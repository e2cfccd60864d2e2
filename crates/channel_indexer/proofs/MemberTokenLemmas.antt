-- The members that tokens have, one after another, under the conversion to data.
use Rattle.std.proofs.Common.{◌≡◌, ℕ, ◌-◌, ◌<◌, ◌≤◌, List, length, Option, Some, None, option_map, refl, ap, ◌∙◌}
use Rattle.json.specs.Token.{Token}
use Rattle.json.specs.Json as json
use Rattle.json.specs.Json.{Parse, parse_map, read_key, members}
use Rattle.json.proofs.Grammar.{members_end, members_more}
use Rattle.serde_json.specs.Data.{Data, object, Members, no_members, put}
use Rattle.serde_json.specs.Read.{of_json, of_members, converted}

-- ---- what was read, and what is left

abbrev pick : {A : Type 0} → A → Option A → A
pick d None = d
pick d (Some a) = a

converted-parts : {B : Type 0} (r s : List Token) (x : Option B) (b : B) → option_map {U = B × List Token} (λ y. (y, r)) x ≡ Some (b, s) → (r ≡ s) × (x ≡ Some b)
converted-parts r s None b e = absurd (cc)
converted-parts r s (Some y) b e = let same = ap (pick (y, r)) e in (ap (λ p. p.1) same, ap (λ p. Some p.0) same)

-- what is converted was read, and leaves the same
pub converted-some : {A B : Type 0} (f : A → Option B) (o : Option (A × List Token)) (b : B) (r : List Token) → converted f o ≡ Some (b, r) → (a : A) × (o ≡ Some (a, r)) × (f a ≡ Some b)
converted-some f None b r e = absurd (cc)
converted-some f (Some p) b r e = let both = converted-parts p.1 r (f p.0) b e in (p.0, ap (λ s. Some (p.0, s)) both.0, both.1)

-- what was read and converts is converted
pub some-converted : {A B : Type 0} (f : A → Option B) (o : Option (A × List Token)) (a : A) (b : B) (r : List Token) → o ≡ Some (a, r) → f a ≡ Some b → converted f o ≡ Some (b, r)
some-converted f o a b r e is = ap (converted f) e ∙ ap (option_map (λ y. (y, r))) is

twice : {A B : Type 0} (g : A → B) (r : List Token) (x : Option A) → option_map (λ b. (b, r)) (option_map g x) ≡ parse_map g (option_map (λ a. (a, r)) x)
twice g r None = refl
twice g r (Some a) = refl

-- an object is what its members are
pub object-converted : (o : Option (json.Members × List Token)) → converted of_json (parse_map json.object o) ≡ parse_map object (converted (λ ms. of_members ms no_members) o)
object-converted None = refl
object-converted (Some p) = twice object p.1 (of_members p.0 no_members)

-- ---- the members behind some that were read

with-member : (k : List ℕ) (j : json.Json) (d : Data) (old : Members) → of_json j ≡ Some d → (o : Option (json.Members × List Token))
    → converted (λ ms. of_members ms old) (parse_map (json.member k j) o) ≡ converted (λ ms. of_members ms (put k d old)) o
with-member k j d old e None = refl
with-member k j d old e (Some p) = rw e

module _ (p : Parse json.Json) (old : Members) where
  pub member-on : (n : ℕ) (k : List ℕ) (ts s r : List Token) (d : Data) → 0 < n → read_key ts ≡ Some (Some k, s) → converted of_json (p s) ≡ Some (d, r)
      → converted (λ ms. of_members ms old) (members p n ts) ≡ converted (λ ms. of_members ms (put k d old)) (members p (n - 1) r)
  member-on n k ts s r d some key e =
      let j = converted-some of_json (p s) d r e in
      ap (converted (λ ms. of_members ms old)) (members_more p n k ts s r j.0 some key j.1) ∙ with-member k j.0 d old j.2 _

  pub members-over : (n : ℕ) (ts r : List Token) → length ts ≤ n → read_key ts ≡ Some (None, r) → converted (λ ms. of_members ms old) (members p n ts) ≡ Some (old, r)
  members-over n ts r enough e = ap (converted (λ ms. of_members ms old)) (members_end p n ts r enough e)
