-- The rows of one of the two maps, met one after the other.
use Rattle.std.proofs.Common.{◌≡◌, refl, sym, ◌∙◌, ap, ℕ, ◌+◌, ◌<◌, Bool, true, false, not, cond, List, [], ◌∷◌, ◌++◌, length, take, get_or, length-append, append-nil}
use Rattle.std.specs.Prelude.{Some, codes, if◌then◌else◌}
use Rattle.mp_codec.specs.Writing.{map_head, array_head, pair_bytes}
use Rattle.std.specs.List.{All, flat_map}
use Rattle.std.proofs.lemmas.List.{take_more}
use Rattle.std.proofs.lemmas.List.Elements.{filter-append}
use Rattle.shard_file.specs.Rows.{Row}
use Rattle.shard_file.specs.Writing.{stands_in, rows_under, file_bytes, files_bytes, files_pair, removed_pair, shard_bytes, bytes_under, IsReadableRow, IsReadableUnder}

-- the number of those among the first, with one more
pub count_more : (conda : Bool) (rows : List Row) (i : ℕ) (r : Row) → i < length rows → r ≡ get_or rows i r
    → length (rows_under conda (take (i + 1) rows)) ≡ length (rows_under conda (take i rows)) + (if stands_in conda r then 1 else 0)
count_more conda rows i r lt is =
    ap (λ (rs : List Row). length (rows_under conda rs)) (take_more rows i r lt ∙ ap (λ (s : Row). take i rows ++ s ∷ []) (sym is))
    ∙ ap length (filter-append (stands_in conda) (take i rows) (r ∷ []))
    ∙ length-append (rows_under conda (take i rows)) (rows_under conda (r ∷ []))
    ∙ ap (λ (k : ℕ). length (rows_under conda (take i rows)) + k) (one (stands_in conda r))
  where
    one : (b : Bool) → length (cond b (r ∷ []) []) ≡ (if b then 1 else 0)
    one true = refl
    one false = refl

pub under_bytes : (conda : Bool) (rows : List Row) → flat_map (bytes_under conda) rows ≡ flat_map file_bytes (rows_under conda rows)
under_bytes conda [] = refl
under_bytes conda (r ∷ rows) = go (stands_in conda r) (under_bytes conda rows)
  where
    go : (b : Bool) → flat_map (bytes_under conda) rows ≡ flat_map file_bytes (rows_under conda rows)
        → (if b then file_bytes r else []) ++ flat_map (bytes_under conda) rows ≡ flat_map file_bytes (cond b (r ∷ rows_under conda rows) (rows_under conda rows))
    go true e = ap (λ (t : List ℕ). file_bytes r ++ t) e
    go false e = e

-- what can be read again in whichever of the two maps it stands can be read again
pub both_readable : (rows : List Row) → All (IsReadableUnder false) rows → All (IsReadableUnder true) rows → All IsReadableRow rows
both_readable rows f t k d lt = go (get_or rows k d).conda refl
  where
    go : (b : Bool) → (get_or rows k d).conda ≡ b → IsReadableRow (get_or rows k d)
    go true is = t k d lt is
    go false is = f k d lt (ap not is)

-- the parts of a shard that are written, one behind the other
pub shard_parts : (rows : List Row) → map_head 3 ++ (files_pair (codes "packages") false rows ++ (files_pair (codes "packages.conda") true rows ++ removed_pair)) ≡ shard_bytes rows
unfolding shard_bytes files_pair removed_pair
shard_parts rows = ap (λ (t : List ℕ). map_head 3 ++ (pair_bytes (codes "packages") (Some (files_bytes (rows_under false rows))) ++ (pair_bytes (codes "packages.conda") (Some (files_bytes (rows_under true rows))) ++ t))) (sym (append-nil (pair_bytes (codes "removed") (Some (array_head 0)))))
