-- The laws of the closure.
use Rattle.std.proofs.Common.{◌≡◌, ℕ, zero, suc, ◌+◌, ◌<◌, ◌⊎◌, inl, inr, Bool, true, false, cond, ◌||◌, ◌&&◌, ◌==◌, List, [], ◌∷◌, ◌++◌, map, length, refl, sym, ap, subst, ◌∙◌, true≢false, arith, find, flat_map, not, Option, Some, None}
use Rattle.std.specs.Prelude.{is_some}
use Rattle.std.specs.List.{AllByRecursion, list_all, list_any, range_with_len}
use Rattle.std.specs.Option.{option_or}
use Rattle.std.specs.Cmp.{unsigned_Decides}
use Rattle.std.specs.Ordering.{eq_by_cmp}
use Rattle.std.proofs.lemmas.List.Folds.{find-append, list_any-append}
use Rattle.digest_gate.specs.declared.digest.Digest.{Digest}
use Rattle.closure_request.specs.Request.{Asking, root_names}
use Rattle.closure_request.specs.Slots.{slots, numbers}
use Rattle.closure_plan.specs.Names.{Name, by_bytes, has_name, is_name, ascending}
use Rattle.closure_plan.specs.Rounds.{reached, rounds}
use Rattle.closure_plan.specs.Given.{Pins, LeafRows, deps_of, given, given_of, is_at, rows_at, rows_of, wanted}
use Rattle.closure_plan.specs.Closure.{Found, closure, closure_in, found, leads_to, reach, targets}
use Rattle.closure_plan.specs.Needs.{Wish, is_askable, is_given, needs, next_wish}
use Rattle.closure_plan.specs.Laws.{Extends}
use Rattle.closure_plan.proofs.ArrivalLemmas.{and_both, and_first, and_second}
use Rattle.closure_plan.proofs.AllLemmas.{all_mapped, all_part, all_unmapped, all_whole}
use Rattle.closure_plan.proofs.NameLemmas.{In, Within, has-ascending, itself, one_name, or_cases, or_left, or_right}
use Rattle.closure_plan.proofs.RoundLemmas.{least, more_reached, reached_after}
use Rattle.closure_plan.proofs.ClosureLemmas.{in-targets, same_closure}
use Rattle.closure_plan.proofs.GiveLemmas.{range_has}
use Rattle.closure_plan.proofs.PinLemmas.{some_stays, wanted_stays}

-- ---- rounds

pub nothing_added : (r : Asking) (pins : Pins) (leaves : List LeafRows) → r.flat ≡ false → (k : ℕ) → rounds (leads_to r pins leaves) k (reach r pins leaves) ≡ reach r pins leaves
nothing_added r pins leaves deep k =
    let all : List Name = reached (leads_to r pins leaves) (targets leaves) (root_names r) in
    let is : reach r pins leaves ≡ all = ap (λ b. cond b (ascending (root_names r)) all) deep in
    ap (rounds (leads_to r pins leaves) k) is ∙ reached_after (leads_to r pins leaves) (targets leaves) (in-targets r pins leaves) (root_names r) k ∙ sym is

pub reach_least : (r : Asking) (pins : Pins) (leaves : List LeafRows) (names : List Name) → Within (root_names r) names
    → ((n q : Name) → In n names → In q (leads_to r pins leaves n) → In q names) → Within (reach r pins leaves) names
reach_least r pins leaves names roots closed q = elim r.flat as (λ b. In q (cond b (ascending (root_names r)) (reached (leads_to r pins leaves) (targets leaves) (root_names r))) → In q names) [
  | true ↦ λ i. roots q (sym (has-ascending q (root_names r)) ∙ i)
  | false ↦ λ i. least (leads_to r pins leaves) names (root_names r) roots closed (length (ascending (targets leaves))) q i
]

-- ---- the closure is what is given

abbrev same_number : ℕ → ℕ → Bool
same_number s t = t == s

one_number : (s t : ℕ) → same_number s t ≡ true → s ≡ t
one_number s t e = sym ((unsigned_Decides t s).0 e)

number_itself : (s : ℕ) → same_number s s ≡ true
number_itself s = (unsigned_Decides s s).1 refl

below : (a k s : ℕ) → list_any (same_number s) (range_with_len a k) ≡ true → s < a + k
below a zero s e = absurd (true≢false (sym e))
below a (suc k) s e = elim (a == s) as (λ b. (a == s) ≡ b → (b || list_any (same_number s) (range_with_len (a + 1) k)) ≡ true → s < a + suc k) [
  | true ↦ λ here _. let same : a ≡ s = (unsigned_Decides a s).0 here in omega arith
  | false ↦ λ _ later. let l = below (a + 1) k s later in omega arith
] refl e

all_of_test : {X : Type 0} (p : X → Bool) (xs : List X) → list_all p xs ≡ true → AllByRecursion (λ x. p x ≡ true) xs
all_of_test p [] e = tt
all_of_test p (x ∷ xs) e = (and_first (p x) (list_all p xs) e, all_of_test p xs (and_second (p x) (list_all p xs) e))

test_of_all : {X : Type 0} (p : X → Bool) (xs : List X) → AllByRecursion (λ x. p x ≡ true) xs → list_all p xs ≡ true
test_of_all p [] a = refl
test_of_all p (x ∷ xs) a = and_both (p x) (list_all p xs) a.0 (test_of_all p xs a.1)

module _ (r : Asking) (pins : Pins) (leaves : List LeafRows) (test : Found → Bool) where
  abbrev P : Found → Type 0
  P f = test f ≡ true

  abbrev rows_of_name : ℕ → Name → List Found
  rows_of_name s n = map (found r s) (given r pins leaves s n)

  pub given_in_closure : list_all test (closure r pins leaves) ≡ true → (s : ℕ) (n : Name) → s < length (slots r) → In n (reach r pins leaves) → list_all (λ row. test (found r s row)) (given r pins leaves s n) ≡ true
  given_in_closure all s n low here =
      let in_slot : AllByRecursion P (closure_in r pins leaves s) = all_part P same_number one_number number_itself (closure_in r pins leaves) (numbers r) s
      (range_has 0 (length (slots r)) s (omega arith) (omega arith)) (all_of_test test (closure r pins leaves) all) in
      let of_name : AllByRecursion P (rows_of_name s n) = all_part P is_name one_name itself (rows_of_name s) (reach r pins leaves) n here in_slot in
      test_of_all (λ row. test (found r s row)) (given r pins leaves s n) (all_mapped P (found r s) (given r pins leaves s n) of_name)

  pub closure_given : ((s : ℕ) (n : Name) → s < length (slots r) → In n (reach r pins leaves) → list_all (λ row. test (found r s row)) (given r pins leaves s n) ≡ true) → list_all test (closure r pins leaves) ≡ true
  closure_given each = test_of_all test (closure r pins leaves) (all_whole P same_number one_number number_itself (closure_in r pins leaves) (numbers r) (λ s in_s.
      all_whole P is_name one_name itself (rows_of_name s) (reach r pins leaves) (λ n in_n.
      all_unmapped P (found r s) (given r pins leaves s n) (all_of_test (λ row. test (found r s row)) (given r pins leaves s n)
      (each s n (let l = below 0 (length (slots r)) s in_s in omega arith) in_n)))))

-- ---- more pins, more leaves

module _ (r : Asking) (pins more : Pins) (extends : Extends pins more) where
  pub same_wanted : (s : ℕ) (n : Name) → is_some (wanted r pins s n) ≡ true → wanted r more s n ≡ wanted r pins s n
  same_wanted s n e = elim (wanted r pins s n) as (λ (o : Option Digest). wanted r pins s n ≡ o → is_some o ≡ true → wanted r more s n ≡ o) [
    | Some d ↦ λ is e. wanted_stays r pins more extends s n d is
    | None ↦ λ is e. absurd (true≢false (sym e))
  ] refl e

  module _ (leaves later : List LeafRows) where
    rows_stay : (s : ℕ) (n : Name) → (rows_at leaves s n ≡ []) ⊎ (rows_at (leaves ++ later) s n ≡ rows_at leaves s n)
    rows_stay s n = elim (find (is_at s n) leaves) as (λ (o : Option LeafRows). find (is_at s n) leaves ≡ o → (rows_of o ≡ []) ⊎ (rows_at (leaves ++ later) s n ≡ rows_of o)) [
      | None ↦ λ _. inl refl
      | Some l ↦ λ e. inr (ap rows_of (find-append (is_at s n) leaves later) ∙ ap (λ (o : Option LeafRows). rows_of (option_or o (find (is_at s n) later))) e)
    ] refl

    pub given_stays : (s : ℕ) (n : Name) → (given r pins leaves s n ≡ []) ⊎ (given r more (leaves ++ later) s n ≡ given r pins leaves s n)
    given_stays s n = elim (is_some (wanted r pins s n)) as (λ b. is_some (wanted r pins s n) ≡ b → (cond b (given_of r s n (rows_at leaves s n)) [] ≡ []) ⊎ (given r more (leaves ++ later) s n ≡ cond b (given_of r s n (rows_at leaves s n)) [])) [
      | false ↦ λ _. inl refl
      | true ↦ λ e. elim (rows_stay s n) as (λ _. (given_of r s n (rows_at leaves s n) ≡ []) ⊎ (given r more (leaves ++ later) s n ≡ given_of r s n (rows_at leaves s n))) [
        | inl none ↦ inl (ap (given_of r s n) none)
        | inr same ↦ inr (ap (λ b. cond b (given_of r s n (rows_at (leaves ++ later) s n)) []) (some_stays r pins more extends s n e) ∙ ap (given_of r s n) same)
      ]
    ] refl

    leads_stay : (n q : Name) → In q (leads_to r pins leaves n) → In q (leads_to r more (leaves ++ later) n)
    leads_stay n q i = over (numbers r) i
      where
        one : (s : ℕ) → In q (flat_map deps_of (given r pins leaves s n)) → In q (flat_map deps_of (given r more (leaves ++ later) s n))
        one s j = elim (given_stays s n) as (λ _. In q (flat_map deps_of (given r more (leaves ++ later) s n))) [
          | inl none ↦ absurd (true≢false (sym (subst (λ rows. In q (flat_map deps_of rows)) none j)))
          | inr same ↦ subst (λ rows. In q (flat_map deps_of rows)) (sym same) j
        ]

        over : (ss : List ℕ) → In q (flat_map (λ s. flat_map deps_of (given r pins leaves s n)) ss) → In q (flat_map (λ s. flat_map deps_of (given r more (leaves ++ later) s n)) ss)
        over [] j = j
        over (s ∷ ss) j = list_any-append (eq_by_cmp by_bytes q) (flat_map deps_of (given r more (leaves ++ later) s n)) (flat_map (λ t. flat_map deps_of (given r more (leaves ++ later) t n)) ss)
            ∙ or_cases (has_name (flat_map deps_of (given r pins leaves s n)) q) (has_name (flat_map (λ t. flat_map deps_of (given r pins leaves t n)) ss) q) _
            (λ e. or_left (has_name (flat_map deps_of (given r more (leaves ++ later) s n)) q) _ (one s e))
            (λ e. or_right (has_name (flat_map deps_of (given r more (leaves ++ later) s n)) q) _ (over ss e))
            (sym (list_any-append (eq_by_cmp by_bytes q) (flat_map deps_of (given r pins leaves s n)) (flat_map (λ t. flat_map deps_of (given r pins leaves t n)) ss)) ∙ j)

    pub reach_grows : (q : Name) → In q (reach r pins leaves) → In q (reach r more (leaves ++ later))
    reach_grows q = elim r.flat as (λ b. In q (cond b (ascending (root_names r)) (reached (leads_to r pins leaves) (targets leaves) (root_names r)))
        → In q (cond b (ascending (root_names r)) (reached (leads_to r more (leaves ++ later)) (targets (leaves ++ later)) (root_names r)))) [
          | true ↦ λ i. i
          | false ↦ λ i. more_reached (root_names r) (leads_to r pins leaves) (leads_to r more (leaves ++ later)) (targets leaves) (targets (leaves ++ later)) (in-targets r pins leaves) (in-targets r more (leaves ++ later)) leads_stay q i
        ]

-- ---- the order of arrival

pub same_order : (r : Asking) (pins : Pins) (leaves others : List LeafRows) → ((s : ℕ) (n : Name) → rows_at others s n ≡ rows_at leaves s n) → closure r pins others ≡ closure r pins leaves
same_order r pins leaves others same = same_closure r pins pins leaves others (λ s n _. ap (λ rows. cond (is_some (wanted r pins s n)) (given_of r s n rows) []) (same s n))

-- ---- the end

-- where no need may be asked for beside no marks, each is given
all_given : (r : Asking) (pins : Pins) (leaves : List LeafRows) (ws : List Wish) → find (is_askable r pins leaves []) ws ≡ None → list_all (is_given pins leaves) ws ≡ true
all_given r pins leaves [] e = refl
all_given r pins leaves (w ∷ ws) e = elim (is_given pins leaves w) as (λ b. cond (not b && true) (Some w) (find (is_askable r pins leaves []) ws) ≡ None → (b && list_all (is_given pins leaves) ws) ≡ true) [
  | true ↦ λ e. all_given r pins leaves ws e
  | false ↦ λ e. absurd (true≢false (ap is_some e))
] e

pub end_done : (r : Asking) (pins : Pins) (leaves : List LeafRows) → next_wish r pins leaves [] ≡ None → list_all (is_given pins leaves) (needs r pins leaves) ≡ true
end_done r pins leaves e = all_given r pins leaves (needs r pins leaves) e

-- what is found passes
found_passes : {W : Type 0} (p : W → Bool) (ws : List W) (x : W) → find p ws ≡ Some x → p x ≡ true
found_passes p [] x e = absurd (true≢false (sym (ap is_some e)))
found_passes p (w ∷ ws) x e = elim (p w) as (λ b. p w ≡ b → cond b (Some w) (find p ws) ≡ Some x → p x ≡ true) [
  | true ↦ λ passes e. let same : w ≡ x = cc in ap p (sym same) ∙ passes
  | false ↦ λ _ e. found_passes p ws x e
] refl e

pub next_askable : (r : Asking) (pins : Pins) (leaves : List LeafRows) (marked : List Wish) (need : Wish) → next_wish r pins leaves marked ≡ Some need → is_askable r pins leaves marked need ≡ true
next_askable r pins leaves marked need e = found_passes (is_askable r pins leaves marked) (needs r pins leaves) need e
