-- The closure over the pins and leaves that were given is the closure over any that agree on what is reached.
use Rattle.std.proofs.Common.{◌≡◌, ℕ, Bool, true, false, cond, ◌||◌, List, [], ◌∷◌, ◌++◌, map, refl, sym, ap, ◌∙◌, true≢false, flat_map, filter, find, Some}
use Rattle.std.specs.Ordering.{eq_by_cmp}
use Rattle.std.specs.Prelude.{is_some}
use Rattle.std.proofs.lemmas.List.Folds.{list_any-append}
use Rattle.std.proofs.lemmas.List.Concat.{flat_map-append}
use Rattle.shard_file.specs.Rows.{Row}
use Rattle.closure_plan.specs.Names.{Name, by_bytes, is_name, has_name, ascending}
use Rattle.closure_plan.specs.Rounds.{reached}
use Rattle.closure_request.specs.Request.{Asking, root_names}
use Rattle.closure_request.specs.Slots.{numbers}
use Rattle.closure_plan.specs.Given.{LeafRows, Pins, is_at, rows_of, rows_at, wanted, named, name_in, stays, kept_by, is_asked, given_of, given, deps_of}
use Rattle.closure_plan.specs.Closure.{leads_to, targets, reach, found, closure, closure_in}
use Rattle.closure_plan.proofs.NameLemmas.{itself, In, or_left, or_right, or_cases}
use Rattle.closure_plan.proofs.RoundLemmas.{same_reached}

module _ {A : Type 0} (f : A → List Name) where
  pub in-append : (q : Name) (xs ys : List A) → has_name (flat_map f (xs ++ ys)) q ≡ (has_name (flat_map f xs) q || has_name (flat_map f ys) q)
  in-append q xs ys = ap (λ ns. has_name ns q) (flat_map-append f xs ys) ∙ list_any-append (eq_by_cmp by_bytes q) (flat_map f xs) (flat_map f ys)

  pub each_within : (q : Name) (P : Type 0) → ((x : A) → In q (f x) → P) → (xs : List A) → In q (flat_map f xs) → P
  each_within q P k [] i = absurd (true≢false (sym i))
  each_within q P k (x ∷ xs) i = or_cases (has_name (f x) q) (has_name (flat_map f xs) q) P (k x) (each_within q P k xs) (sym (list_any-append (eq_by_cmp by_bytes q) (f x) (flat_map f xs)) ∙ i)

  pub kept_of_filter : (p : A → Bool) (q : Name) (xs : List A) → In q (flat_map f (filter p xs)) → In q (flat_map f xs)
  kept_of_filter p q [] i = i
  kept_of_filter p q (x ∷ xs) i = list_any-append (eq_by_cmp by_bytes q) (f x) (flat_map f xs)
      ∙ elim (p x) as (λ b. In q (flat_map f (cond b (x ∷ filter p xs) (filter p xs))) → (has_name (f x) q || has_name (flat_map f xs) q) ≡ true) [
        | true ↦ λ i. or_cases (has_name (f x) q) (has_name (flat_map f (filter p xs)) q) _ (λ e. or_left (has_name (f x) q) _ e) (λ e. or_right (has_name (f x) q) _ (kept_of_filter p q xs e))
            (sym (list_any-append (eq_by_cmp by_bytes q) (f x) (flat_map f (filter p xs))) ∙ i)
        | false ↦ λ i. or_right (has_name (f x) q) _ (kept_of_filter p q xs i)
      ] i

pub flat_map_same : {B : Type 0} (f g : Name → List B) (ns : List Name) → ((n : Name) → In n ns → f n ≡ g n) → flat_map f ns ≡ flat_map g ns
flat_map_same f g [] same = refl
flat_map_same f g (n ∷ ns) same =
    let first : f n ≡ g n = same n (or_left (eq_by_cmp by_bytes n n) (has_name ns n) (itself n)) in
    let rest = flat_map_same f g ns (λ m i. same m (or_right (eq_by_cmp by_bytes m n) (has_name ns m) i)) in
    λ k. first k ++ rest k

-- what given rows depend on stands in what all rows depend on
pub in-given_of : (r : Asking) (s : ℕ) (n : Name) (rows : List Row) (q : Name) → In q (flat_map deps_of (given_of r s n rows)) → In q (flat_map deps_of rows)
in-given_of r s n rows q i =
    kept_of_filter deps_of (λ row. is_name n (name_in row)) q rows
    (kept_of_filter deps_of (stays r.format (named n rows)) q (named n rows)
    (kept_of_filter deps_of (is_asked r s n) q (kept_by r.format (named n rows)) i))

deps_of_rows_at : (leaves : List LeafRows) (s : ℕ) (n q : Name) → In q (flat_map deps_of (rows_at leaves s n)) → In q (targets leaves)
deps_of_rows_at [] s n q i = i
deps_of_rows_at (l ∷ ls) s n q i =
    in-append deps_of q l.rows (flat_map (λ (x : LeafRows). x.rows) ls)
    ∙ elim (is_at s n l) as (λ b. In q (flat_map deps_of (rows_of (cond b (Some l) (find (is_at s n) ls)))) → (has_name (flat_map deps_of l.rows) q || has_name (targets ls) q) ≡ true) [
      | true ↦ λ i. or_left (has_name (flat_map deps_of l.rows) q) _ i
      | false ↦ λ i. or_right (has_name (flat_map deps_of l.rows) q) _ (deps_of_rows_at ls s n q i)
    ] i

module _ (r : Asking) where
  in-given : (pins : Pins) (leaves : List LeafRows) (s : ℕ) (n q : Name) → In q (flat_map deps_of (given r pins leaves s n)) → In q (targets leaves)
  in-given pins leaves s n q i =
      elim (is_some (wanted r pins s n)) as (λ b. In q (flat_map deps_of (cond b (given_of r s n (rows_at leaves s n)) [])) → In q (targets leaves)) [
        | true ↦ λ i. deps_of_rows_at leaves s n q (in-given_of r s n (rows_at leaves s n) q i)
        | false ↦ λ i. absurd (true≢false (sym i))
      ] i

  pub in-targets : (pins : Pins) (leaves : List LeafRows) (n q : Name) → In q (leads_to r pins leaves n) → In q (targets leaves)
  in-targets pins leaves n q i = each_within (λ s. flat_map deps_of (given r pins leaves s n)) q (In q (targets leaves)) (λ s j. in-given pins leaves s n q j) (numbers r) i

  -- where two sets of pins and leaves give the same of each name that is reached by the one, they have one reach and one closure
  module _ (pins pins2 : Pins) (leaves leaves2 : List LeafRows)
      (agree : (s : ℕ) (n : Name) → In n (reach r pins leaves) → given r pins2 leaves2 s n ≡ given r pins leaves s n) where
    pub same_reach : reach r pins2 leaves2 ≡ reach r pins leaves
    same_reach =
        elim r.flat as (λ b. ((s : ℕ) (n : Name) → In n (cond b (ascending (root_names r)) (reached (leads_to r pins leaves) (targets leaves) (root_names r))) → given r pins2 leaves2 s n ≡ given r pins leaves s n)
        → cond b (ascending (root_names r)) (reached (leads_to r pins2 leaves2) (targets leaves2) (root_names r)) ≡ cond b (ascending (root_names r)) (reached (leads_to r pins leaves) (targets leaves) (root_names r))) [
          | true ↦ λ _. refl
          | false ↦ λ same. same_reached (root_names r) (leads_to r pins leaves) (leads_to r pins2 leaves2) (targets leaves) (targets leaves2) (in-targets pins leaves) (in-targets pins2 leaves2)
              (λ n i k. flat_map (λ s. flat_map deps_of (same s n i k)) (numbers r))
        ] agree

    pub same_closure : closure r pins2 leaves2 ≡ closure r pins leaves
    same_closure =
        let name : (s : ℕ) → closure_in r pins2 leaves2 s ≡ closure_in r pins leaves s
        = λ s. ap (flat_map (λ n. map (found r s) (given r pins2 leaves2 s n))) same_reach
        ∙ flat_map_same (λ n. map (found r s) (given r pins2 leaves2 s n)) (λ n. map (found r s) (given r pins leaves s n)) (reach r pins leaves)
        (λ n i. ap (map (found r s)) (agree s n i)) in
        λ k. flat_map (λ s. name s k) (numbers r)
