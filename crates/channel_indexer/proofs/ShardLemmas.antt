-- Shards that are made one after another.
use Rattle.std.proofs.Common.{◌≡◌, ℕ, suc, ◌+◌, ◌<◌, ◌^◌, List, [], ◌∷◌, ◌++◌, map, length, refl, sym, ap, ◌∙◌, subst, arith}
use Rattle.std.specs.List.{All}
use Rattle.std.proofs.lemmas.List.Elements.{All-map}
use Rattle.shard_index.specs.Index.{Listed}
use Rattle.channel_indexer.specs.Groups.{Group}
use Rattle.channel_indexer.specs.Shards.{listed_of, IsFit}

-- what holds of all that a list becomes holds of what an element in it becomes
pub at-middle : {X Y Z : Type 0} (P : Z → Type 0) (f : Y → Z) (g : X → Y) (xs ys : List X) (x : X)
    → All P (map f (map g (xs ++ x ∷ ys))) → P (f (g x))
at-middle P f g [] ys x all = all 0 (f (g x)) (omega arith)
at-middle P f g (y ∷ xs) ys x all = at-middle P f g xs ys x (λ k d h. all (suc k) d (omega arith))

pub in-middle : {X Y Z : Type 0} (P : Z → Type 0) (f : Y → Z) (g : X → Y) (whole xs left ys : List X) (x : X)
    → whole ≡ xs ++ left → left ≡ x ∷ ys → All P (map f (map g whole)) → P (f (g x))
in-middle P f g whole xs left ys x are next all =
    at-middle P f g xs ys x (subst (λ l. All P (map f (map g l))) (are ∙ ap (λ l. xs ++ l) next) all)

-- one element more
pub push-all : {X Y : Type 0} (P : Y → Type 0) (g : X → Y) (xs : List X) (x : X) → All P (map g xs) → P (g x) → All P (map g (xs ++ x ∷ []))
push-all P g [] x all p = λ k d h. first k d h
  where
    first : (k : ℕ) (d : _) → k < length (map g (x ∷ [])) → P (Rattle.std.proofs.Common.get_or (map g (x ∷ [])) k d)
    first Rattle.std.proofs.Common.zero d h = p
    first (suc k) d h = absurd (omega arith)
push-all P g (y ∷ xs) x all p = λ k d h. step k d h (push-all P g xs x (λ k d h. all (suc k) d (omega arith)) p)
  where
    step : (k : ℕ) (d : _) → k < length (map g (y ∷ (xs ++ x ∷ []))) → All P (map g (xs ++ x ∷ [])) → P (Rattle.std.proofs.Common.get_or (map g (y ∷ (xs ++ x ∷ []))) k d)
    step Rattle.std.proofs.Common.zero d h rest = all 0 d (omega arith)
    step (suc k) d h rest = rest k d (omega arith)

pub map-push : {X Y Z : Type 0} (f : Y → Z) (g : X → Y) (xs : List X) (x : X) → map f (map g (xs ++ x ∷ [])) ≡ map f (map g xs) ++ f (g x) ∷ []
map-push f g [] x = refl
map-push f g (y ∷ xs) x = ap (λ l. f (g y) ∷ l) (map-push f g xs x)

-- the names of the entries of some groups
pub listed-names : (groups : List Group) → map (λ (x : Listed). x.name) (map listed_of groups) ≡ map (λ (g : Group). g.name) groups
listed-names [] = refl
listed-names (g ∷ gs) = ap (λ l. g.name ∷ l) (listed-names gs)

-- names of groups that are fit are short
pub listed-short : (groups : List Group) → All IsFit groups → All (λ (x : Listed). length x.name < 2 ^ 32) (map listed_of groups)
listed-short groups fit = All-map (λ (x : Listed). length x.name < 2 ^ 32) listed_of groups (λ k d h. (fit k d h).named)
