-- A leaf that arrives: what is listed and the new names of its given rows are what is reached then.
use Rattle.std.proofs.Common.{◌≡◌, ℕ, ◌⊎◌, inl, inr, Bool, true, false, cond, ◌||◌, ◌&&◌, ◌==◌, List, [], ◌∷◌, ◌++◌, length, refl, sym, ap, subst, subst₂, ◌∙◌, true≢false, flat_map, find, Option, Some, None}
use Rattle.std.specs.Prelude.{is_some}
use Rattle.std.specs.Ordering.{eq_by_cmp}
use Rattle.std.specs.List.{list_any}
use Rattle.std.specs.Option.{option_or}
use Rattle.std.specs.Cmp.{unsigned_Decides}
use Rattle.std.proofs.lemmas.List.Folds.{list_any-append, find-append}
use Rattle.shard_file.specs.Rows.{Row}
use Rattle.closure_plan.specs.Names.{Name, by_bytes, has_name, ascending}
use Rattle.closure_plan.specs.Rounds.{reached}
use Rattle.closure_request.specs.Request.{Asking, root_names}
use Rattle.closure_request.specs.Slots.{slots, numbers}
use Rattle.closure_plan.specs.Given.{LeafRows, Pins, is_at, rows_of, rows_at, wanted, given_of, given, deps_of}
use Rattle.closure_plan.specs.Closure.{leads_to, targets, reach, closure}
use Rattle.closure_plan.proofs.NameLemmas.{one_name, In, Within, or_left, or_right, or_cases, has-ascending}
use Rattle.closure_plan.proofs.RoundLemmas.{roots-rounds, reached_closed, step_of_list}
use Rattle.closure_plan.proofs.ClosureLemmas.{each_within, in-targets, same_reach, same_closure}

pub and_first : (a b : Bool) → (a && b) ≡ true → a ≡ true
and_first true b e = refl
and_first false b e = e

pub and_both : (a b : Bool) → a ≡ true → b ≡ true → (a && b) ≡ true
and_both a b e f = ap (λ x. x && b) e ∙ f

pub and_second : (a b : Bool) → (a && b) ≡ true → b ≡ true
and_second true b e = e
and_second false b e = absurd (true≢false (sym e))

abbrev pub has_slot : List ℕ → ℕ → Bool
has_slot slots s = list_any (λ t. t == s) slots

-- of no rows none are given
pub none_of : (r : Asking) (s : ℕ) (n : Name) → given_of r s n [] ≡ []
none_of r s n = refl

module _ (r : Asking) (pins : Pins) where
  -- what is given of some rows, at a slot and a name
  abbrev pub kept : ℕ → Name → List Row → List Row
  kept s n rows = cond (is_some (wanted r pins s n)) (given_of r s n rows) []

  kept_none : (s : ℕ) (n : Name) → kept s n [] ≡ []
  kept_none s n = elim (is_some (wanted r pins s n)) as (λ b. cond b (given_of r s n []) [] ≡ []) [
    | true ↦ none_of r s n
    | false ↦ refl
  ]

  abbrev deps_at : List LeafRows → Name → ℕ → List Name
  deps_at leaves n s = flat_map deps_of (given r pins leaves s n)

  at_slot : (leaves : List LeafRows) (n q : Name) (s : ℕ) (slots : List ℕ) → list_any (λ t. t == s) slots ≡ true → In q (deps_at leaves n s) → In q (flat_map (deps_at leaves n) slots)
  at_slot leaves n q s [] here i = absurd (true≢false (sym here))
  at_slot leaves n q s (t ∷ ts) here i = list_any-append (eq_by_cmp by_bytes q) (deps_at leaves n t) (flat_map (deps_at leaves n) ts)
      ∙ or_cases (t == s) (list_any (λ t. t == s) ts) ((has_name (deps_at leaves n t) q || has_name (flat_map (deps_at leaves n) ts) q) ≡ true)
      (λ e. or_left (has_name (deps_at leaves n t) q) _ (subst (λ u. In q (deps_at leaves n u)) (sym ((unsigned_Decides t s).0 e)) i))
      (λ e. or_right (has_name (deps_at leaves n t) q) _ (at_slot leaves n q s ts e i))
      here

  module _ (leaves : List LeafRows) (l : LeafRows) where
    abbrev more : List LeafRows
    more = leaves ++ l ∷ []

    -- at each slot and name: nothing changes, or there was nothing and this is the leaf's place
    rows_after : (s : ℕ) (n : Name) → (rows_at more s n ≡ rows_at leaves s n) ⊎ ((rows_at leaves s n ≡ []) × (is_at s n l ≡ true))
    rows_after s n =
        subst (λ (o : Option LeafRows). (rows_of o ≡ rows_at leaves s n) ⊎ ((rows_at leaves s n ≡ []) × (is_at s n l ≡ true))) (sym (find-append (is_at s n) leaves (l ∷ [])))
        (elim (find (is_at s n) leaves) as (λ (o : Option LeafRows). (rows_of (option_or o (find (is_at s n) (l ∷ []))) ≡ rows_of o) ⊎ ((rows_of o ≡ []) × (is_at s n l ≡ true))) [
          | Some x ↦ inl refl
          | None ↦ elim (is_at s n l) as (λ b. (rows_of (cond b (Some l) None) ≡ []) ⊎ ((rows_of None ≡ []) × (b ≡ true))) [ true ↦ inr (refl, refl) | false ↦ inl refl ]
        ])

    deps_after : (n : Name) (s : ℕ) → (deps_at more n s ≡ deps_at leaves n s) ⊎ ((deps_at leaves n s ≡ []) × (is_at s n l ≡ true))
    deps_after n s = elim (rows_after s n) as (λ _. (deps_at more n s ≡ deps_at leaves n s) ⊎ ((deps_at leaves n s ≡ []) × (is_at s n l ≡ true))) [
      | inl e ↦ inl (ap (λ rows. flat_map deps_of (kept s n rows)) e)
      | inr e ↦ inr (ap (λ rows. flat_map deps_of (kept s n rows)) e.0 ∙ ap (flat_map deps_of) (kept_none s n), e.1)
    ]

    leads_more : (n q : Name) → In q (leads_to r pins leaves n) → In q (leads_to r pins more n)
    leads_more n q i = over (numbers r) i
      where
        one : (s : ℕ) → In q (deps_at leaves n s) → In q (deps_at more n s)
        one s j = elim (deps_after n s) as (λ _. In q (deps_at more n s)) [
          | inl e ↦ subst (In q) (sym e) j
          | inr e ↦ absurd (true≢false (sym (subst (In q) e.0 j)))
        ]

        over : (slots : List ℕ) → In q (flat_map (deps_at leaves n) slots) → In q (flat_map (deps_at more n) slots)
        over [] j = j
        over (s ∷ ss) j = list_any-append (eq_by_cmp by_bytes q) (deps_at more n s) (flat_map (deps_at more n) ss)
            ∙ or_cases (has_name (deps_at leaves n s) q) (has_name (flat_map (deps_at leaves n) ss) q) _ (λ e. or_left (has_name (deps_at more n s) q) _ (one s e)) (λ e. or_right (has_name (deps_at more n s) q) _ (over ss e))
            (sym (list_any-append (eq_by_cmp by_bytes q) (deps_at leaves n s) (flat_map (deps_at leaves n) ss)) ∙ j)

    leads_from : (n q : Name) (P : Type 0) → (In q (leads_to r pins leaves n) → P) → (n ≡ l.name → In q (deps_at more l.name l.slot) → P) → In q (leads_to r pins more n) → P
    leads_from n q P old new i = over (numbers r) old i
      where
        over : (slots : List ℕ) → (In q (flat_map (deps_at leaves n) slots) → P) → In q (flat_map (deps_at more n) slots) → P
        over [] k j = absurd (true≢false (sym j))
        over (s ∷ ss) k j = or_cases (has_name (deps_at more n s) q) (has_name (flat_map (deps_at more n) ss) q) P
            (λ e. elim (deps_after n s) as (λ _. P) [
              | inl same ↦ k (list_any-append (eq_by_cmp by_bytes q) (deps_at leaves n s) (flat_map (deps_at leaves n) ss) ∙ or_left (has_name (deps_at leaves n s) q) _ (subst (In q) same e))
              | inr at ↦
                  let n_is : n ≡ l.name = one_name n l.name (and_second (l.slot == s) (eq_by_cmp by_bytes n l.name) at.1) in
                  let s_is : l.slot ≡ s = (unsigned_Decides l.slot s).0 (and_first (l.slot == s) (eq_by_cmp by_bytes n l.name) at.1) in
                  new n_is (subst₂ (λ m t. In q (deps_at more m t)) n_is (sym s_is) e)
            ])
            (over ss (λ x. k (list_any-append (eq_by_cmp by_bytes q) (deps_at leaves n s) (flat_map (deps_at leaves n) ss) ∙ or_right (has_name (deps_at leaves n s) q) _ x)))
            (sym (list_any-append (eq_by_cmp by_bytes q) (deps_at more n s) (flat_map (deps_at more n) ss)) ∙ j)

    leads_needs : (n q : Name) (P : Type 0) → ((s : ℕ) → is_some (find (is_at s n) leaves) ≡ true → P) → In q (leads_to r pins leaves n) → P
    leads_needs n q P k i = each_within (deps_at leaves n) q P
        (λ s j. elim (find (is_at s n) leaves) as (λ (o : Option LeafRows). (is_some o ≡ true → P) → In q (flat_map deps_of (kept s n (rows_of o))) → P) [
          | Some x ↦ λ k j. k refl
          | None ↦ λ k j. absurd (true≢false (sym (subst (λ rows. In q (flat_map deps_of rows)) (kept_none s n) j)))
        ] (k s) j) (numbers r) i

    -- what is listed, with the names that the given rows of the leaf depend on, is what is reached then
    pub reach_after : r.flat ≡ false → (names longer : List Name)
        → ascending names ≡ reach r pins leaves
        → ((s : ℕ) (n : Name) → is_some (find (is_at s n) leaves) ≡ true → In n names)
        → In l.name names → has_slot (numbers r) l.slot ≡ true
        → ((q : Name) → has_name longer q ≡ (has_name names q || has_name (deps_at more l.name l.slot) q))
        → ascending longer ≡ reach r pins more
    reach_after deep names longer is needs listed slot new =
        let next = leads_to r pins leaves in
        let all = reached next (targets leaves) (root_names r) in
        let is_all : ascending names ≡ all = is ∙ ap (λ b. cond b (ascending (root_names r)) all) deep in
        let from_all : Within all names = λ q i. sym (has-ascending q names) ∙ subst (In q) (sym is_all) i in
        let to_all : Within names all = λ q i. subst (In q) is_all (has-ascending q names ∙ i) in
        let grows : Within names longer = λ q i. new q ∙ or_left (has_name names q) _ i in
        let taken : (q : Name) → In q (deps_at more l.name l.slot) → In q longer = λ q i. new q ∙ or_right (has_name names q) _ i in
        step_of_list (root_names r) next (leads_to r pins more) (targets leaves) (targets more) (in-targets r pins leaves) (in-targets r pins more) names longer
        (λ q i. from_all q (roots-rounds next (length (ascending (targets leaves))) (root_names r) q i))
        to_all
        leads_more
        grows
        (λ q i. or_cases (has_name names q) (has_name (deps_at more l.name l.slot) q) _ (λ e. inl e) (λ e. inr (l.name, listed, at_slot more l.name q l.slot (numbers r) slot e)) (sym (new q) ∙ i))
        (λ n q i. leads_from n q (In n names × In q longer)
        (λ e. let n_in : In n names = leads_needs n q (In n names) (λ s f. needs s n f) e in
        (n_in, grows q (from_all q (reached_closed next (targets leaves) (in-targets r pins leaves) (root_names r) n q (to_all n n_in) e))))
        (λ same e. (subst (λ x. In x names) (sym same) listed, taken q e)) i)
        ∙ sym (ap (λ b. cond b (ascending (root_names r)) (reached (leads_to r pins more) (targets more) (root_names r))) deep)

module _ (r : Asking) where
  -- a pin that arrives at a slot without leaves changes nothing that is reached
  pub reach_pinned : (pins pins2 : Pins) (leaves : List LeafRows)
      → ((s : ℕ) (n : Name) → (is_some (wanted r pins2 s n) ≡ is_some (wanted r pins s n)) ⊎ (rows_at leaves s n ≡ []))
      → reach r pins2 leaves ≡ reach r pins leaves
  reach_pinned pins pins2 leaves same = same_reach r pins pins2 leaves leaves (λ s n _. elim (same s n) as (λ _. given r pins2 leaves s n ≡ given r pins leaves s n) [
    | inl e ↦ ap (λ b. cond b (given_of r s n (rows_at leaves s n)) []) e
    | inr e ↦ ap (kept r pins2 s n) e ∙ kept_none r pins2 s n ∙ sym (ap (kept r pins s n) e ∙ kept_none r pins s n)
  ])

  -- where each need is given, the closure is that over any world that has the same indexes and the same rows at these needs
  pub closure_in_world : (pins world_pins : Pins) (leaves world : List LeafRows)
      → ((s : ℕ) (n : Name) → is_some (wanted r world_pins s n) ≡ is_some (wanted r pins s n))
      → ((s : ℕ) (n : Name) → In n (reach r pins leaves) → is_some (wanted r pins s n) ≡ true → rows_at world s n ≡ rows_at leaves s n)
      → closure r world_pins world ≡ closure r pins leaves
  closure_in_world pins world_pins leaves world same_lists same_rows = same_closure r pins world_pins leaves world (λ s n i.
      let picked : Bool → List Row → List Row = λ b rows. cond b (given_of r s n rows) [] in
      ap (λ b. picked b (rows_at world s n)) (same_lists s n)
      ∙ elim (is_some (wanted r pins s n)) as (λ b. (b ≡ true → rows_at world s n ≡ rows_at leaves s n) → picked b (rows_at world s n) ≡ picked b (rows_at leaves s n)) [
        | true ↦ λ e. ap (picked true) (e refl)
        | false ↦ λ _. refl
      ] (same_rows s n i))
