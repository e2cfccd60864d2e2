-- Rows that ascend, by pairs of neighbours.
use Rattle.std.proofs.Common.{◌≡◌, sym, ◌∙◌, ap, ℕ, ◌+◌, ◌-◌, ◌<◌, ◌≤◌, true, false, List, [], ◌∷◌, length, get_or, arith}
use Rattle.std.specs.declared.cmp.Ordering.TheVariants.{Less}
use Rattle.std.specs.Cmp.{IsTotalOrder, bool_cmp_total}
use Rattle.std.specs.Ordering.{is_lt, on, bool_cmp, nat_cmp}
use Rattle.std.specs.Cmp.Lexicographic.{slice_cmp}
use Rattle.std.specs.List.Sorted.{IsStrictlySortedBy}
use Rattle.std.proofs.lemmas.Cmp.{nat_list_cmp_total, then_total}
use Rattle.std.proofs.lemmas.List.{get_or_default}
use Rattle.std.proofs.lemmas.Map.Keys.{sorted_from_all_adjacent, Less-from_sorted}
use Rattle.shard_file.specs.Rows.{Row}
use Rattle.shard_file.specs.Writing.{row_cmp}

file_cmp_total : IsTotalOrder (on (λ (r : Row). r.file) (slice_cmp nat_cmp))
file_cmp_total = record {
  antisymm = λ r s. nat_list_cmp_total.antisymm r.file s.file;
  trans = λ r s t. nat_list_cmp_total.trans r.file s.file t.file;
  congr = λ r s t. nat_list_cmp_total.congr r.file s.file t.file;
}

conda_cmp_total : IsTotalOrder (on (λ (r : Row). r.conda) bool_cmp)
conda_cmp_total = record {
  antisymm = λ r s. bool_cmp_total.antisymm r.conda s.conda;
  trans = λ r s t. bool_cmp_total.trans r.conda s.conda t.conda;
  congr = λ r s t. bool_cmp_total.congr r.conda s.conda t.conda;
}

-- rows are in one order
pub row_order : IsTotalOrder row_cmp
row_order = then_total file_cmp_total conda_cmp_total

-- rows each of which comes before the next ascend
pub ascending : (rows : List Row) (n : ℕ) → length rows ≤ n → ((k : ℕ) (d : Row) → k + 1 < n → row_cmp (get_or rows k d) (get_or rows (k + 1) d) ≡ Less) → IsStrictlySortedBy row_cmp rows
unfolding IsStrictlySortedBy
ascending [] n le next = tt
ascending (r ∷ rows) n le next = sorted_from_all_adjacent row_order (r ∷ rows) r (λ k lt. next k r (omega arith))

-- rows of which one does not come before the next don't
pub not_ascending : (rows : List Row) (i : ℕ) (a b : Row) → 1 ≤ i → i < length rows → a ≡ get_or rows (i - 1) a → b ≡ get_or rows i b → is_lt (row_cmp a b) ≡ false → IsStrictlySortedBy row_cmp rows → ⊥
not_ascending rows i a b some lt at_a at_b not_before up =
    let less : row_cmp (get_or rows (i - 1) a) (get_or rows i a) ≡ Less = Less-from_sorted row_cmp rows (i - 1) i a up (omega arith) lt in
    let second : get_or rows i a ≡ b = get_or_default rows i a b lt ∙ sym at_b in
    let before : row_cmp a b ≡ Less = ap (λ (r : Row). row_cmp r b) at_a ∙ ap (row_cmp (get_or rows (i - 1) a)) (sym second) ∙ less in
    let wrong : true ≡ false = sym (ap is_lt before) ∙ not_before in
    absurd (cc)
