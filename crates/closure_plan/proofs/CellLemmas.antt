-- What stays so of the cells of shards.
use Rattle.std.proofs.Common.{◌≡◌, ℕ, ◌+◌, ◌*◌, ◌<◌, ◌≤◌, Bool, true, false, cond, ◌&&◌, ◌==◌, List, [], ◌∷◌, ◌++◌, length, set, refl, sym, ap, subst, ◌∙◌, true≢false, arith, find, Option, Some, None, ltb, ltb-true, ltb-false}
use Rattle.std.specs.Prelude.{is_some, IfSome, eqb}
use Rattle.std.specs.List.{IsDistinct}
use Rattle.std.specs.Option.{option_map, option_or}
use Rattle.std.specs.Cmp.{unsigned_Decides}
use Rattle.std.proofs.lemmas.List.{get_or-set_same, get_or-set_other, get_or_append_left, length-append}
use Rattle.std.proofs.Math.Seq.{get_or-append_seam}
use Rattle.std.proofs.lemmas.List.Folds.{find-append}
use Rattle.std.proofs.lemmas.Nat.{row_fits, same_from_place}
use Rattle.closure_plan.specs.Names.{Name, is_name}
use Rattle.closure_plan.specs.Given.{LeafRows, is_at}
use Rattle.closure_plan.specs.Plan.{name_at}
use Rattle.closure_plan.specs.Rows.{leaf_or_none, no_leaf}
use Rattle.closure_plan.specs.Cells.{AreCells, cell_at}
use Rattle.closure_plan.proofs.NameLemmas.{In, itself, one_name}
use Rattle.closure_plan.proofs.ArrivalLemmas.{and_first, and_second}
use Rattle.closure_plan.proofs.NumberLemmas.{number_of, one_number, row_fits_le}

-- no cells are those of names of which no shard was given
pub no_cells : (slots : ℕ) (names : List Name) → AreCells slots names [] []
no_cells slots names = record {
  found = λ k s low high. refl;
  within = λ place. tt;
  free = λ place beyond. refl;
}

-- cells that read alike
pub cells_same : (slots : ℕ) (names : List Name) (leaves : List LeafRows) (cells more : List (Option ℕ))
    → ((place : ℕ) → cell_at more place ≡ cell_at cells place) → AreCells slots names leaves cells → AreCells slots names leaves more
cells_same slots names leaves cells more same h = record {
  found = λ k s low high. ap (option_map (leaf_or_none leaves)) (same (k * slots + s)) ∙ h.found k s low high;
  within = λ place. subst (λ (c : Option ℕ). IfSome c (λ i. i < length leaves)) (sym (same place)) (h.within place);
  free = λ place beyond. same place ∙ h.free place beyond;
}

is_found : {A B : Type 0} (f : A → B) (o : Option A) (p : Option B) → option_map f o ≡ p → is_some o ≡ is_some p
is_found f None p e = ap is_some e
is_found f (Some a) p e = ap is_some e

module _ (slots : ℕ) (names fresh : List Name) (leaves : List LeafRows) (l : LeafRows) (cells : List (Option ℕ)) (h : AreCells slots names leaves cells)
    (apart : IsDistinct is_name (names ++ fresh))
    (listed : (s : ℕ) (n : Name) → is_some (find (is_at s n) leaves) ≡ true → In n names)
    (slot k0 : ℕ) (slot_low : slot < slots) (name_low : k0 < length names)
    (its_slot : l.slot ≡ slot) (its_name : l.name ≡ name_at names k0)
    (open_yet : find (is_at slot (name_at names k0)) leaves ≡ None)
    (wide : k0 * slots + slot < length cells) where
  abbrev more : List LeafRows
  more = leaves ++ l ∷ []

  abbrev longer : List Name
  longer = names ++ fresh

  abbrev its_place : ℕ
  its_place = k0 * slots + slot

  abbrev filled : List (Option ℕ)
  filled = set cells its_place (Some (length leaves))

  same_name : (k : ℕ) → k < length names → name_at longer k ≡ name_at names k
  same_name k low = get_or_append_left names fresh [] k low

  below : (k : ℕ) → k < length names → k < length longer
  below k low = let e = length-append names fresh in omega arith

  -- a place that was read before reads the same leaf
  reads_on : (o : Option ℕ) → IfSome o (λ i. i < length leaves) → option_map (leaf_or_none more) o ≡ option_map (leaf_or_none leaves) o
  reads_on None low = refl
  reads_on (Some i) low = ap (λ (x : LeafRows). Some x) (get_or_append_left leaves (l ∷ []) no_leaf i low)

  -- the new leaf is at no other place
  not_here : (k s : ℕ) → k < length longer → s < slots → (k * slots + s ≡ its_place → ⊥) → is_at s (name_at longer k) l ≡ false
  not_here k s low high other = elim (is_at s (name_at longer k) l) as (λ b. is_at s (name_at longer k) l ≡ b → b ≡ false) [
    | false ↦ λ _. refl
    | true ↦ λ e.
        let same_slot : l.slot ≡ s = (unsigned_Decides l.slot s).0 (and_first (l.slot == s) (is_name (name_at longer k) l.name) e) in
        let named : name_at longer k ≡ l.name = one_name (name_at longer k) l.name (and_second (l.slot == s) (is_name (name_at longer k) l.name) e) in
        let number : k ≡ k0 = one_number longer apart k k0 low (below k0 name_low) (named ∙ its_name ∙ sym (same_name k0 name_low)) in
        absurd (other (ap (λ j. j * slots + s) number ∙ ap (λ t. k0 * slots + t) (sym same_slot ∙ its_slot)))
  ] refl

  find_on : (k s : ℕ) → k < length longer → s < slots → (k * slots + s ≡ its_place → ⊥) → find (is_at s (name_at longer k)) more ≡ find (is_at s (name_at longer k)) leaves
  find_on k s low high other =
      find-append (is_at s (name_at longer k)) leaves (l ∷ [])
      ∙ ap (λ b. option_or (find (is_at s (name_at longer k)) leaves) (cond b (Some l) None)) (not_here k s low high other)
      ∙ right_none (find (is_at s (name_at longer k)) leaves)
    where
      right_none : (o : Option LeafRows) → option_or o None ≡ o
      right_none None = refl
      right_none (Some x) = refl

  -- of a new name no shard was given
  fresh_none : (k s : ℕ) → length names ≤ k → k < length longer → find (is_at s (name_at longer k)) leaves ≡ None
  fresh_none k s beyond low = elim (find (is_at s (name_at longer k)) leaves) as (λ (o : Option LeafRows). find (is_at s (name_at longer k)) leaves ≡ o → o ≡ None) [
    | None ↦ λ _. refl
    | Some x ↦ λ e. absurd (not_listed (listed s (name_at longer k) (ap is_some e)))
  ] refl
    where
      not_listed : In (name_at longer k) names → ⊥
      not_listed here = let at = number_of (name_at longer k) names here in
          let same : at.0 ≡ k = one_number longer apart at.0 k (below at.0 at.1) low (same_name at.0 at.1 ∙ at.2) in
          let l = at.1 in omega arith

  old_cell : (place : ℕ) → (place ≡ its_place → ⊥) → cell_at filled place ≡ cell_at cells place
  old_cell place other = get_or-set_other cells its_place place (Some (length leaves)) None other

  new_cell : cell_at filled its_place ≡ Some (length leaves)
  new_cell = get_or-set_same cells its_place (Some (length leaves)) None wide

  found_elsewhere : (k s : ℕ) → k < length longer → s < slots → (k * slots + s ≡ its_place → ⊥)
      → option_map (leaf_or_none more) (cell_at filled (k * slots + s)) ≡ find (is_at s (name_at longer k)) more
  found_elsewhere k s low high other =
      ap (option_map (leaf_or_none more)) (old_cell (k * slots + s) other) ∙ reads_on (cell_at cells (k * slots + s)) (h.within (k * slots + s))
      ∙ before (ltb k (length names)) refl ∙ sym (find_on k s low high other)
    where
      rows_on : (a b : ℕ) → a ≤ b → a * slots ≤ b * slots + s
      rows_on a b le = let f = row_fits_le a b slots le in omega arith

      before : (b : Bool) → ltb k (length names) ≡ b → option_map (leaf_or_none leaves) (cell_at cells (k * slots + s)) ≡ find (is_at s (name_at longer k)) leaves
      before true e = h.found k s (ltb-true _ _ e) high ∙ ap (λ n. find (is_at s n) leaves) (sym (same_name k (ltb-true _ _ e)))
      before false e =
          let beyond : length names ≤ k = ltb-false _ _ e in
          ap (option_map (leaf_or_none leaves)) (h.free (k * slots + s) (rows_on (length names) k beyond)) ∙ sym (fresh_none k s beyond low)

  found_here : option_map (leaf_or_none more) (cell_at filled its_place) ≡ find (is_at slot (name_at longer k0)) more
  found_here =
      ap (option_map (leaf_or_none more)) new_cell ∙ ap (λ (x : LeafRows). Some x) (get_or-append_seam leaves l [] no_leaf)
      ∙ sym (find-append (is_at slot (name_at longer k0)) leaves (l ∷ [])
      ∙ ap (λ (o : Option LeafRows). option_or o (cond (is_at slot (name_at longer k0) l) (Some l) None)) (ap (λ n. find (is_at slot n) leaves) (same_name k0 name_low) ∙ open_yet)
      ∙ ap (λ b. cond b (Some l) None) here)
    where
      here : is_at slot (name_at longer k0) l ≡ true
      here = ap (λ t. (t == slot) && is_name (name_at longer k0) l.name) its_slot
          ∙ ap (λ b. b && is_name (name_at longer k0) l.name) ((unsigned_Decides slot slot).1 refl)
          ∙ ap (is_name (name_at longer k0)) (its_name ∙ sym (same_name k0 name_low)) ∙ itself (name_at longer k0)

  -- the cells with that of the new shard
  pub cells_given : AreCells slots longer more filled
  cells_given = record {
    found = λ k s low high. elim (eqb (k * slots + s) its_place) as (λ b. eqb (k * slots + s) its_place ≡ b → option_map (leaf_or_none more) (cell_at filled (k * slots + s)) ≡ find (is_at s (name_at longer k)) more) [
      | true ↦ λ e.
          let both = same_from_place k s k0 slot slots high slot_low ((unsigned_Decides _ _).0 e) in
          subst (λ j. option_map (leaf_or_none more) (cell_at filled (j * slots + s)) ≡ find (is_at s (name_at longer j)) more) (sym both.0)
          (subst (λ t. option_map (leaf_or_none more) (cell_at filled (k0 * slots + t)) ≡ find (is_at t (name_at longer k0)) more) (sym both.1) found_here)
      | false ↦ λ e. found_elsewhere k s low high (λ same. true≢false (sym ((unsigned_Decides _ _).1 same) ∙ e))
    ] refl;
    within = λ place. elim (eqb place its_place) as (λ b. eqb place its_place ≡ b → IfSome (cell_at filled place) (λ i. i < length more)) [
      | true ↦ λ e. subst (λ (o : Option ℕ). IfSome o (λ i. i < length more)) (sym (ap (cell_at filled) ((unsigned_Decides _ _).0 e) ∙ new_cell)) (let n = length-append leaves (l ∷ []) in omega arith)
      | false ↦ λ e. subst (λ (o : Option ℕ). IfSome o (λ i. i < length more)) (sym (old_cell place (λ same. true≢false (sym ((unsigned_Decides _ _).1 same) ∙ e)))) (still (cell_at cells place) (h.within place))
    ] refl;
    free = λ place beyond.
        let size = length-append names fresh in
        let more_rows = row_fits_le (length names) (length longer) slots (omega arith) in
        let room = row_fits k0 slots (length names) slots name_low (omega arith) in
        old_cell place (λ same. absurd (omega (arith, same, beyond, more_rows, room, slot_low))) ∙ h.free place (omega (arith, beyond, more_rows));
  }
    where
      still : (o : Option ℕ) → IfSome o (λ i. i < length leaves) → IfSome o (λ i. i < length more)
      still None low = tt
      still (Some i) low = let n = length-append leaves (l ∷ []) in omega arith
