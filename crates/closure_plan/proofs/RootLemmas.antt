-- The names of specs, one spec after another, and the specs that are asked of a name.
use Rattle.std.proofs.Common.{◌≡◌, ℕ, zero, suc, ◌+◌, ◌<◌, ◌≤◌, arith, Bool, true, false, cond, not, ◌||◌, ◌&&◌, List, [], ◌∷◌, ◌++◌, length, take, Option, Some, None, Result, Ok, Err, refl, sym, ap, subst, ◌∙◌, true≢false, eqb, ltb, ltb-true, ltb-false}
use Rattle.std.specs.List.{IsDistinct, list_any, slice_get, slice_index_or, slice_set}
use Rattle.std.specs.Option.{option_map, option_to_list}
use Rattle.std.specs.Prelude.{OnOk}
use Rattle.std.specs.Str.{bytes_eq}
use Rattle.std.proofs.Math.Seq.{get_or-append_seam}
use Rattle.std.proofs.lemmas.Bool.{eqb-true}
use Rattle.std.proofs.lemmas.List.{get_or_append_left, get_or-set_same, get_or-set_other, length-append, map-append, take_all}
use Rattle.std.proofs.lemmas.List.Concat.{flat_map-append}
use Rattle.std.proofs.lemmas.List.Elements.{filter-append}
use Rattle.std.proofs.lemmas.List.Folds.{list_any-append, list_any_at}
use Rattle.std.proofs.lemmas.Map.Keys.{IsDistinct-from_apart, apart_from_distinct}
use Rattle.mp_codec.proofs.KeyLemmas.{same_bytes}
use Rattle.match_spec.specs.Parts.{Meaning}
use Rattle.match_spec.specs.Matching.{matches}
use Rattle.shard_file.specs.Rows.{Row}
use Rattle.closure_request.specs.Request.{Asking, root_names, root_names_of}
use Rattle.closure_plan.specs.Names.{Name, is_name, has_name}
use Rattle.closure_plan.specs.Given.{hits, is_asked, name_in}
use Rattle.closure_plan.specs.Roots.{AreRoots, Roots, asked_of, specs_at, specs_of, with_root, with_spec}
use Rattle.closure_plan.proofs.FreshLemmas.{grows_push}
use Rattle.closure_plan.proofs.NameLemmas.{itself, one_name}

-- one element more is taken
take_snoc : {X : Type 0} (xs : List X) (i : ℕ) (x : X) → slice_get xs i ≡ Some x → take (suc i) xs ≡ take i xs ++ x ∷ []
take_snoc [] i x e = absurd (let no : ◌≡◌ {A = Option _} None (Some x) = e in cc)
take_snoc (y ∷ ys) zero x e = ap (λ z. z ∷ []) (let same : y ≡ x = cc in same)
take_snoc (y ∷ ys) (suc i) x e = ap (λ zs. y ∷ zs) (take_snoc ys i x e)

flipped : (x n : Name) → is_name n x ≡ false → is_name x n ≡ false
flipped x n e = elim (is_name x n) as (λ b. is_name x n ≡ b → b ≡ false) [
  | true ↦ λ s. absurd (true≢false (sym (ap (λ m. is_name n m) (one_name x n s) ∙ itself n) ∙ e))
  | false ↦ λ s. refl
] refl

-- a name that isn't in a list is none of its names
none_of : (names : List Name) (n : Name) (k : ℕ) → has_name names n ≡ false → k < length names → is_name (slice_index_or names k []) n ≡ false
none_of names n k e l = elim (is_name n (slice_index_or names k [])) as (λ b. is_name n (slice_index_or names k []) ≡ b → is_name (slice_index_or names k []) n ≡ false) [
  | true ↦ λ s. absurd (true≢false (sym (list_any_at (is_name n) names k [] l s) ∙ e))
  | false ↦ λ s. flipped (slice_index_or names k []) n s
] refl

-- a name of a list isn't another one of it
apart : (names : List Name) (j k : ℕ) → IsDistinct is_name names → j < length names → k < length names → eqb j k ≡ false → is_name (slice_index_or names j []) (slice_index_or names k []) ≡ false
apart names j k d l m e = elim (ltb j k) as (λ b. ltb j k ≡ b → is_name (slice_index_or names j []) (slice_index_or names k []) ≡ false) [
  | true ↦ λ t. apart_from_distinct is_name names j k [] d (ltb-true _ _ t) m
  | false ↦ λ t. flipped (slice_index_or names j []) (slice_index_or names k []) (apart_from_distinct is_name names k j [] d (below (ltb-false _ _ t)) l)
] refl
  where
    below : k ≤ j → k < j
    below le = grind (arith, e, le)

-- no spec has a name that is none of the specs' names
no_specs : (n : Name) (specs : List Meaning) → has_name (root_names_of specs) n ≡ false → specs_of n specs ≡ []
no_specs n [] e = refl
no_specs n (s ∷ specs) e = elim (is_name n s.name) as (λ b. (b || has_name (root_names_of specs) n) ≡ false → cond b (s ∷ specs_of n specs) (specs_of n specs) ≡ []) [
  | true ↦ λ h. absurd (true≢false h)
  | false ↦ λ h. no_specs n specs h
] e

module _ (specs : List Meaning) (i : ℕ) (s : Meaning) (here : slice_get specs i ≡ Some s) (r : Roots) (are : AreRoots specs i r) (each_has : length r.specs ≡ length r.names) where
  next : i + 1 ≡ suc i
  next = omega arith

  more : take (i + 1) specs ≡ take i specs ++ s ∷ []
  more = ap (λ k. take k specs) next ∙ take_snoc specs i s here

  names_more : (q : Name) → has_name (root_names_of (take (i + 1) specs)) q ≡ (has_name (root_names_of (take i specs)) q || (is_name q s.name || false))
  names_more q =
      ap (λ ss. has_name (root_names_of ss) q) more ∙ ap (λ ns. has_name ns q) (map-append (λ (spec : Meaning). spec.name) (take i specs) (s ∷ []))
      ∙ list_any-append (is_name q) (root_names_of (take i specs)) (s.name ∷ [])

  specs_more : (n : Name) → specs_of n (take (i + 1) specs) ≡ specs_of n (take i specs) ++ cond (is_name n s.name) (s ∷ []) []
  specs_more n = ap (specs_of n) more ∙ filter-append (λ (spec : Meaning). is_name n spec.name) (take i specs) (s ∷ [])

  append_none : (xs : List Meaning) → xs ++ [] ≡ xs
  append_none [] = refl
  append_none (x ∷ xs) = ap (λ ys. x ∷ ys) (append_none xs)

  specs_same : (n : Name) → is_name n s.name ≡ false → specs_of n (take (i + 1) specs) ≡ specs_of n (take i specs)
  specs_same n e = specs_more n ∙ ap (λ b. specs_of n (take i specs) ++ cond b (s ∷ []) []) e ∙ append_none (specs_of n (take i specs))

  specs_one : (n : Name) → is_name n s.name ≡ true → specs_of n (take (i + 1) specs) ≡ specs_of n (take i specs) ++ s ∷ []
  specs_one n e = specs_more n ∙ ap (λ b. specs_of n (take i specs) ++ cond b (s ∷ []) []) e

  at_more : (ks : List ℕ) → specs_at specs (ks ++ i ∷ []) ≡ specs_at specs ks ++ s ∷ []
  at_more ks = flat_map-append (λ k. option_to_list (slice_get specs k)) ks (i ∷ []) ∙ ap (λ o. specs_at specs ks ++ (option_to_list o ++ [])) here

  -- a spec more of a name that is there
  pub roots_known : (k : ℕ) → k < length r.names → slice_index_or r.names k [] ≡ s.name → AreRoots specs (i + 1) (with_spec k i r)
  roots_known k l is = record {
    distinct = are.distinct;
    same = λ q. are.same q ∙ sym (names_more q ∙ widened q);
    each = each;
  }
    where
      there : has_name r.names s.name ≡ true
      there = list_any_at (is_name s.name) r.names k [] l (ap (is_name s.name) is ∙ itself s.name)

      widened : (q : Name) → (has_name (root_names_of (take i specs)) q || (is_name q s.name || false)) ≡ has_name (root_names_of (take i specs)) q
      widened q = elim (is_name q s.name) as (λ b. is_name q s.name ≡ b → (has_name (root_names_of (take i specs)) q || (b || false)) ≡ has_name (root_names_of (take i specs)) q) [
        | true ↦ λ same. let has : has_name (root_names_of (take i specs)) q ≡ true = sym (are.same q) ∙ ap (has_name r.names) (one_name q s.name same) ∙ there in ap (λ b. b || true) has ∙ sym has
        | false ↦ λ _. or_none (has_name (root_names_of (take i specs)) q)
      ] refl
        where
          or_none : (a : Bool) → (a || false) ≡ a
          or_none true = refl
          or_none false = refl

      value : List ℕ
      value = slice_index_or r.specs k [] ++ i ∷ []

      each : (j : ℕ) → j < length r.names → specs_at specs (slice_index_or (slice_set r.specs k value) j []) ≡ specs_of (slice_index_or r.names j []) (take (i + 1) specs)
      each j m = elim (eqb j k) as (λ b. eqb j k ≡ b → specs_at specs (slice_index_or (slice_set r.specs k value) j []) ≡ specs_of (slice_index_or r.names j []) (take (i + 1) specs)) [
        | true ↦ λ e. subst (λ h. specs_at specs (slice_index_or (slice_set r.specs k value) h []) ≡ specs_of (slice_index_or r.names h []) (take (i + 1) specs)) (sym (eqb-true j k e)) at_it
        | false ↦ λ e. ap (specs_at specs) (get_or-set_other r.specs k j value [] (λ same. true≢false (sym (eq_is j k same) ∙ e)))
            ∙ are.each j m ∙ sym (specs_same (slice_index_or r.names j []) (ap (is_name (slice_index_or r.names j [])) (sym is) ∙ apart r.names j k are.distinct m l e))
      ] refl
        where
          eq_is : (a b : ℕ) → a ≡ b → eqb a b ≡ true
          eq_is a b e = grind (arith, e)

          at_it : specs_at specs (slice_index_or (slice_set r.specs k value) k []) ≡ specs_of (slice_index_or r.names k []) (take (i + 1) specs)
          at_it =
              ap (specs_at specs) (get_or-set_same r.specs k value [] (omega (arith, l, each_has))) ∙ at_more (slice_index_or r.specs k [])
              ∙ ap (λ ss. ss ++ s ∷ []) (are.each k l)
              ∙ sym (specs_one (slice_index_or r.names k []) (ap (λ n. is_name n s.name) is ∙ itself s.name))

  -- the first spec of a name
  pub roots_new : has_name r.names s.name ≡ false → AreRoots specs (i + 1) (with_root s.name i r)
  roots_new none = record {
    distinct = (grows_push [] r.names s.name none).distinct are.distinct;
    same = λ q. list_any-append (is_name q) r.names (s.name ∷ []) ∙ ap (λ b. b || (is_name q s.name || false)) (are.same q) ∙ sym (names_more q);
    each = each;
  }
    where
      old : (j : ℕ) → j < length r.names → specs_at specs (slice_index_or (r.specs ++ (i ∷ []) ∷ []) j []) ≡ specs_of (slice_index_or (r.names ++ s.name ∷ []) j []) (take (i + 1) specs)
      old j l =
          ap (specs_at specs) (get_or_append_left r.specs ((i ∷ []) ∷ []) [] j (omega (arith, l, each_has))) ∙ are.each j l
          ∙ sym (ap (λ n. specs_of n (take (i + 1) specs)) (get_or_append_left r.names (s.name ∷ []) [] j l) ∙ specs_same (slice_index_or r.names j []) (none_of r.names s.name j none l))

      last : specs_at specs (slice_index_or (r.specs ++ (i ∷ []) ∷ []) (length r.names) []) ≡ specs_of (slice_index_or (r.names ++ s.name ∷ []) (length r.names) []) (take (i + 1) specs)
      last =
          ap (λ k. specs_at specs (slice_index_or (r.specs ++ (i ∷ []) ∷ []) k [])) (sym each_has) ∙ ap (specs_at specs) (get_or-append_seam r.specs (i ∷ []) [] [])
          ∙ at_more [] ∙ sym (ap (λ ss. ss ++ s ∷ []) (no_specs s.name (take i specs) (sym (are.same s.name) ∙ none)))
          ∙ sym (specs_one s.name (itself s.name)) ∙ ap (λ n. specs_of n (take (i + 1) specs)) (sym (get_or-append_seam r.names s.name [] []))

      each : (j : ℕ) → j < length (r.names ++ s.name ∷ []) → specs_at specs (slice_index_or (r.specs ++ (i ∷ []) ∷ []) j []) ≡ specs_of (slice_index_or (r.names ++ s.name ∷ []) j []) (take (i + 1) specs)
      each j l = elim (ltb j (length r.names)) as (λ b. ltb j (length r.names) ≡ b → specs_at specs (slice_index_or (r.specs ++ (i ∷ []) ∷ []) j []) ≡ specs_of (slice_index_or (r.names ++ s.name ∷ []) j []) (take (i + 1) specs)) [
        | true ↦ λ t. old j (ltb-true _ _ t)
        | false ↦ λ t. let high : length r.names ≤ j = ltb-false _ _ t in let count : length (r.names ++ s.name ∷ []) ≡ length r.names + 1 = length-append r.names (s.name ∷ []) in let it : j ≡ length r.names = omega (arith, l) in
            subst (λ k. specs_at specs (slice_index_or (r.specs ++ (i ∷ []) ∷ []) k []) ≡ specs_of (slice_index_or (r.names ++ s.name ∷ []) k []) (take (i + 1) specs)) (sym it) last
      ] refl

-- before the first spec
pub no_roots : (specs : List Meaning) → AreRoots specs 0 (record { names = []; specs = [] })
no_roots specs = record {
  distinct = distinct_none;
  same = λ n. refl;
  each = λ k l. absurd (omega arith);
}
  where
    distinct_none : IsDistinct is_name []
    distinct_none = IsDistinct-from_apart is_name [] (λ i j d l m. absurd (omega arith))

-- ---- what is asked of a name

module _ (specs : List Meaning) (r : Roots) (are : AreRoots specs (length specs) r) (n : Name) where
  all : take (length specs) specs ≡ specs
  all = take_all (length specs) specs (omega arith)

  same : has_name r.names n ≡ has_name (root_names_of specs) n
  same = are.same n ∙ ap (λ ss. has_name (root_names_of ss) n) all

  pub asked_known : (k : ℕ) → k < length r.names → slice_index_or r.names k [] ≡ n → Some (specs_at specs (slice_index_or r.specs k [])) ≡ asked_of specs n
  asked_known k l is =
      ap (λ ss. Some ss) (are.each k l ∙ ap (λ m. specs_of m (take (length specs) specs)) is ∙ ap (specs_of n) all)
      ∙ sym (ap (λ (b : Bool). cond b (Some (specs_of n specs)) None) (sym same ∙ list_any_at (is_name n) r.names k [] l (ap (is_name n) is ∙ itself n)))

  pub asked_none : has_name r.names n ≡ false → None ≡ asked_of specs n
  asked_none e = sym (ap (λ (b : Bool). cond b (Some (specs_of n specs)) None) (sym same ∙ e))

-- ---- which rows match

module _ (r : Asking) (s : ℕ) (row : Row) (n : Name) (of_it : is_name n (name_in row) ≡ true) where
  false_and : (a b : Bool) → a ≡ false → (a && b) ≡ false
  false_and a b e = ap (λ t. t && b) e

  -- a spec of another name matches no row of the name
  hits_none : (spec : Meaning) → is_name n spec.name ≡ false → hits r s row spec ≡ false
  unfolding matches
  hits_none spec other = elim (bytes_eq (name_in row) spec.name) as (λ b. bytes_eq (name_in row) spec.name ≡ b → hits r s row spec ≡ false) [
    | true ↦ λ same. absurd (true≢false (sym of_it ∙ ap (is_name n) (same_bytes (name_in row) spec.name same) ∙ other))
    | false ↦ λ same. false_and (bytes_eq (name_in row) spec.name) _ same
  ] refl

  pub narrowed : (specs : List Meaning) → list_any (hits r s row) (specs_of n specs) ≡ list_any (hits r s row) specs
  narrowed [] = refl
  narrowed (spec ∷ specs) = elim (is_name n spec.name) as (λ b. is_name n spec.name ≡ b → list_any (hits r s row) (cond b (spec ∷ specs_of n specs) (specs_of n specs)) ≡ (hits r s row spec || list_any (hits r s row) specs)) [
    | true ↦ λ _. ap (λ b. hits r s row spec || b) (narrowed specs)
    | false ↦ λ other. narrowed specs ∙ sym (ap (λ b. b || list_any (hits r s row) specs) (hits_none spec other))
  ] refl

  -- what is asked of a row, by the specs of its name
  abbrev pub by_specs : Option (List Meaning) → Bool
  by_specs None = true
  by_specs (Some specs) = list_any (hits r s row) specs

  pub asked_by : (o : Option (List Meaning)) → o ≡ asked_of r.specs n → by_specs o ≡ is_asked r s n row
  asked_by o e = ap by_specs e ∙ elim (has_name (root_names r) n) as (λ b. by_specs (cond b (Some (specs_of n r.specs)) None) ≡ (not b || list_any (hits r s row) r.specs)) [
    | true ↦ narrowed r.specs
    | false ↦ refl
  ]

-- ---- what a call adds

-- what follows where a call came to its value
pub after_ok : {A E : Type 0} (r : Result A E) (P Q : Type 0) → (P → Q) → OnOk r P → OnOk r Q
after_ok (Ok x) P Q f p = f p
after_ok (Err e) P Q f p = tt

spec_there : (o : Option Meaning) (n : Name) → option_map (λ (s : Meaning). s.name) o ≡ Some n → (s : Meaning) × (o ≡ Some s) × (s.name ≡ n)
spec_there None n e = absurd (let no : ◌≡◌ {A = Option Name} None (Some n) = e in cc)
spec_there (Some s) n e = (s, refl, (let same : s.name ≡ n = cc in same))

module _ (specs : List Meaning) (i : ℕ) (n : Name) (old new : Roots) (each_has : length old.specs ≡ length old.names) (here : option_map (λ (s : Meaning). s.name) (slice_get specs i) ≡ Some n) (are : AreRoots specs i old) where
  pub known_added : (k : ℕ) → k < length old.names → slice_index_or old.names k [] ≡ n → new ≡ with_spec k i old → AreRoots specs (i + 1) new
  known_added k l is e =
      let s = spec_there (slice_get specs i) n here in
      subst (AreRoots specs (i + 1)) (sym e) (roots_known specs i s.0 s.1 old are each_has k l (is ∙ sym s.2))

  pub new_added : has_name old.names n ≡ false → new ≡ with_root n i old → AreRoots specs (i + 1) new
  new_added none e =
      let s = spec_there (slice_get specs i) n here in
      subst (AreRoots specs (i + 1)) (sym e) (subst (λ m. AreRoots specs (i + 1) (with_root m i old)) s.2 (roots_new specs i s.0 s.1 old are each_has (ap (has_name old.names) s.2 ∙ none)))
