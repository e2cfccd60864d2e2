-- How many rows are listed, their sizes together, and the least recently used one.
use Rattle.std.proofs.Common.{◌≡◌, ℕ, suc, ◌+◌, ◌-◌, ◌*◌, ◌<◌, ◌≤◌, ◌==◌, ◌^◌, if◌then◌else◌, Bool, true, false, List, [], ◌∷◌, length, Option, Some, None, refl, sym, ap, ◌∙◌, subst, arith}
use Rattle.std.proofs.lemmas.Option.{slice_get_within}
use Rattle.shard_cache.specs.Recency.{is_listed, without, only, total_of, oldest_of, AreBelow}
use Rattle.shard_cache.specs.Linked.{Leads, last_of, order_of, AreSound, AreSizes, IsCounted}
use Rattle.shard_cache.specs.declared.links.Node.{Node}
use Rattle.shard_cache.specs.declared.links.Links.{Links}

-- ---- the order
-- the last row is the least recently used
pub last_is_oldest : (order : List (ℕ × ℕ)) → last_of None order ≡ oldest_of order
last_is_oldest [] = refl
last_is_oldest (p ∷ []) = refl
last_is_oldest (p ∷ (q ∷ qs)) = last_is_oldest (q ∷ qs)

-- rows that nodes lead through are below the number of nodes
pub rows_below : (nodes : List Node) (before : Option ℕ) (order : List (ℕ × ℕ)) (behind : Option ℕ) → Leads nodes before order behind → AreBelow (length nodes) order
rows_below nodes before [] behind leads = tt
rows_below nodes before (p ∷ ps) behind leads = (slice_get_within nodes p.0 _ leads.0, rows_below nodes (Some p.0) ps behind leads.1)

-- ---- a row and the others
-- the sizes and the numbers of a row's entries and of the others are those of all
pub taken_apart : (row : ℕ) (order : List (ℕ × ℕ)) → (total_of order ≡ total_of (only row order) + total_of (without row order)) × (length order ≡ length (only row order) + length (without row order))
taken_apart row [] = (refl, refl)
taken_apart row (p ∷ ps) = split (p.0 == row) (taken_apart row ps)
  where
    split : (b : Bool) → (total_of ps ≡ total_of (only row ps) + total_of (without row ps)) × (length ps ≡ length (only row ps) + length (without row ps))
        → (p.1 + total_of ps ≡ total_of (if b then p ∷ only row ps else only row ps) + total_of (if b then without row ps else p ∷ without row ps))
        × (suc (length ps) ≡ length (if b then p ∷ only row ps else only row ps) + length (if b then without row ps else p ∷ without row ps))
    split true h = (omega (arith, h.0), omega (arith, h.1))
    split false h = (omega (arith, h.0), omega (arith, h.1))

pub sizes_without : (row : ℕ) (order : List (ℕ × ℕ)) → AreSizes order → AreSizes (without row order)
sizes_without row [] fit = tt
sizes_without row (p ∷ ps) fit = split (p.0 == row) (sizes_without row ps fit.1)
  where
    split : (b : Bool) → AreSizes (without row ps) → AreSizes (if b then without row ps else p ∷ without row ps)
    split true rest = rest
    split false rest = (fit.0, rest)

pub sizes_only : (row : ℕ) (order : List (ℕ × ℕ)) → AreSizes order → AreSizes (only row order)
sizes_only row [] fit = tt
sizes_only row (p ∷ ps) fit = split (p.0 == row) (sizes_only row ps fit.1)
  where
    split : (b : Bool) → AreSizes (only row ps) → AreSizes (if b then p ∷ only row ps else only row ps)
    split true rest = (fit.0, rest)
    split false rest = rest

-- what was taken out isn't listed
pub unlisted_without : (row : ℕ) (order : List (ℕ × ℕ)) → is_listed row (without row order) ≡ false
unlisted_without row [] = refl
unlisted_without row (p ∷ ps) = split (p.0 == row) refl (unlisted_without row ps)
  where
    split : (b : Bool) → (p.0 == row) ≡ b → is_listed row (without row ps) ≡ false → is_listed row (if b then without row ps else p ∷ without row ps) ≡ false
    split true e h = h
    split false e h = rw e h

-- a row that stands alone among its own, of which there is one, and the others
pub row_apart : (row size : ℕ) (order : List (ℕ × ℕ)) → only row order ≡ (row, size) ∷ []
    → (total_of order ≡ size + total_of (without row order)) × (length order ≡ 1 + length (without row order))
row_apart row size order alone =
    let apart = taken_apart row order in
    let sum = ap total_of alone in
    let count = ap length alone in
    (omega (arith, apart.0, sum), omega (arith, apart.1, count))

-- sizes together are below so many times the largest
pub total_bound : (order : List (ℕ × ℕ)) → AreSizes order → total_of order ≤ length order * 0xffff_ffff_ffff_ffff
total_bound [] fit = omega arith
total_bound (p ∷ ps) fit = let rest = total_bound ps fit.1 in omega (arith, rest, fit.0)

-- ---- the two counts
-- the row is gone, and so are its size and its place in the count
pub counted_without : (old new : Links) (row size count sum : ℕ) → IsCounted old count sum → AreSound new → order_of new ≡ without row (order_of old) → only row (order_of old) ≡ (row, size) ∷ []
    → IsCounted new (count - 1) (sum - size) × (size ≤ sum)
counted_without old new row size count sum counted sound is alone =
    let apart = row_apart row size (order_of old) alone in
    let c = counted.listed in
    let s = counted.total in
    let total : sum - size ≡ total_of (without row (order_of old)) = omega (arith, apart.0, s) in
    let listed : count - 1 ≡ length (without row (order_of old)) = omega (arith, apart.1, c) in (
      record {
        sound = sound;
        listed = listed ∙ sym (ap length is);
        total = total ∙ sym (ap total_of is);
        sizes = subst AreSizes (sym is) (sizes_without row (order_of old) counted.sizes);
      },
      omega (arith, apart.0, s),
    )

-- the row stands in another place
pub counted_moved : (old new : Links) (row size count sum : ℕ) → IsCounted old count sum → AreSound new → order_of new ≡ (row, size) ∷ without row (order_of old) → only row (order_of old) ≡ (row, size) ∷ []
    → IsCounted new count sum
counted_moved old new row size count sum counted sound is alone =
    let apart = row_apart row size (order_of old) alone in
    let one : AreSizes ((row, size) ∷ []) = subst AreSizes alone (sizes_only row (order_of old) counted.sizes) in record {
      sound = sound;
      listed = counted.listed ∙ apart.1 ∙ omega arith ∙ sym (ap length is);
      total = counted.total ∙ apart.0 ∙ sym (ap total_of is);
      sizes = subst AreSizes (sym is) (one.0, sizes_without row (order_of old) counted.sizes);
    }

-- what one more size leads to fits 128 bits
pub sum_fits : (links : Links) (size count sum : ℕ) → IsCounted links count sum → length (order_of links) < 2 ^ 64 → size < 2 ^ 64 → sum + size < 2 ^ 128
sum_fits links size count sum counted few below =
    let bound = total_bound (order_of links) counted.sizes in
    let s = counted.total in
    omega (arith, bound, s, few, below)
