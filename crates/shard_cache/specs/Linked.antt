-- How rows in order of use are linked both ways in a vector. No public clause cites this module.
use Rattle.std.specs.Prelude.{◌≡◌, ◌≢◌, ℕ, zero, suc, ◌<◌, ◌≤◌, ◌^◌, List, [], ◌∷◌, length, Option, Some, None, slice_get, ⊤}
use Rattle.shard_cache.specs.Recency.{total_of, AreListedOnce}
use Rattle.shard_cache.specs.declared.links.Node.{Node}
use Rattle.shard_cache.specs.declared.links.Links.{Links}

-- a node with its neighbours and its size
abbrev pub node : Option ℕ → Option ℕ → ℕ → Node
node newer older size = record { newer = newer; older = older; size = size }

-- the first of some rows, or what comes behind them
abbrev pub first_of : List (ℕ × ℕ) → Option ℕ → Option ℕ
first_of [] behind = behind
first_of (p ∷ ps) behind = Some p.0

-- the last of some rows, or what comes before them
abbrev pub last_of : Option ℕ → List (ℕ × ℕ) → Option ℕ
last_of before [] = before
last_of before (p ∷ ps) = last_of (Some p.0) ps

-- the nodes lead through these rows, from what comes before them to what comes behind them
abbrev pub Leads : List Node → Option ℕ → List (ℕ × ℕ) → Option ℕ → Type 0
Leads nodes before [] behind = ⊤
Leads nodes before (p ∷ ps) behind = (slice_get nodes p.0 ≡ Some (node before (first_of ps behind) p.1)) × Leads nodes (Some p.0) ps behind

-- a row with the size of its node, and then the rest from the next older one on
abbrev pub with_older : ℕ → Option Node → (Option ℕ → List (ℕ × ℕ)) → List (ℕ × ℕ)
with_older row None rest = []
with_older row (Some n) rest = (row, n.size) ∷ rest n.older

-- the rows from one on towards the oldest, at most so many
abbrev pub rows_from : List Node → ℕ → Option ℕ → List (ℕ × ℕ)
rows_from nodes zero at = []
rows_from nodes (suc most) None = []
rows_from nodes (suc most) (Some row) = with_older row (slice_get nodes row) (rows_from nodes most)

-- the rows in order of use
abbrev pub order_of : Links → List (ℕ × ℕ)
order_of links = rows_from links.nodes.items (length links.nodes.items) links.newest

-- the links hold these rows in this order, each once
pub record IsInOrder (links : Links) (order : List (ℕ × ℕ)) : Type 0 where
  pub newest : links.newest ≡ first_of order None
  pub oldest : links.oldest ≡ last_of None order
  pub leads : Leads links.nodes.items None order None
  pub once : AreListedOnce order
  pub fit : length order ≤ length links.nodes.items

-- the links hold their own rows in order
abbrev pub AreSound : Links → Type 0
AreSound links = IsInOrder links (order_of links)

-- the node of a row is another one, and all else stays
pub record Changes (old new : List Node) (row : ℕ) (now : Node) : Type 0 where
  pub changed : slice_get new row ≡ Some now
  pub others : (other : ℕ) → other ≢ row → slice_get new other ≡ slice_get old other
  pub rows : length new ≡ length old

-- what comes behind a row is set; where there is no row, it is the first of all
abbrev pub SetsOlder : Links → Links → Option ℕ → Option ℕ → Type 0
SetsOlder old new None older = (new.nodes ≡ old.nodes) × (new.newest ≡ older) × (new.oldest ≡ old.oldest)
SetsOlder old new (Some row) older =
    ((n : Node) → slice_get old.nodes.items row ≡ Some n → Changes old.nodes.items new.nodes.items row (node n.newer older n.size))
    × (new.newest ≡ old.newest) × (new.oldest ≡ old.oldest)

-- what comes before a row is set; where there is no row, it is the last of all
abbrev pub SetsNewer : Links → Links → Option ℕ → Option ℕ → Type 0
SetsNewer old new None newer = (new.nodes ≡ old.nodes) × (new.newest ≡ old.newest) × (new.oldest ≡ newer)
SetsNewer old new (Some row) newer =
    ((n : Node) → slice_get old.nodes.items row ≡ Some n → Changes old.nodes.items new.nodes.items row (node newer n.older n.size))
    × (new.newest ≡ old.newest) × (new.oldest ≡ old.oldest)

-- each size is a number of 64 bits
abbrev pub AreSizes : List (ℕ × ℕ) → Type 0
AreSizes [] = ⊤
AreSizes (p ∷ ps) = (p.1 < 2 ^ 64) × AreSizes ps

-- the links hold their rows in order, and the two counts are right
pub record IsCounted (links : Links) (count sum : ℕ) : Type 0 where
  pub sound : AreSound links
  pub listed : count ≡ length (order_of links)
  pub total : sum ≡ total_of (order_of links)
  pub sizes : AreSizes (order_of links)
