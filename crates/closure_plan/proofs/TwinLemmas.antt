-- A row has a twin among the rows of its name exactly where its shard finds one.
use Rattle.std.proofs.Common.{◌≡◌, refl, sym, ap, ◌∙◌, arith, ℕ, suc, ◌+◌, Bool, true, false, cond, ◌&&◌, ◌||◌, not, List, [], ◌∷◌, ◌++◌, length, Option, Some, None}
use Rattle.std.specs.Prelude.{is_some, nat_lt, position}
use Rattle.std.specs.List.{list_any, position_or_len, slice_get}
use Rattle.std.specs.Option.{option_and_then}
use Rattle.std.specs.Str.{bytes_eq, str_eq_ignore_ascii_case}
use Rattle.std.proofs.lemmas.Map.Text.{is_eq-slice_cmp}
use Rattle.mp_codec.proofs.NameSetLemmas.{bytes_eq-sym}
use Rattle.conda_name.specs.Name.{lower_case}
use Rattle.shard_file.specs.Rows.{Row}
use Rattle.shard_file.specs.Twin.{before_ending, is_newer, newer_at, newer_ending, older_ending, twin_at, twin_of}
use Rattle.closure_plan.specs.Names.{Name, is_name}
use Rattle.closure_plan.specs.Given.{has_twin, is_left_out, is_twin, name_in, named}
use Rattle.closure_plan.proofs.NameLemmas.{one_name}

some_if : (b : Bool) (k : ℕ) → is_some (cond b (Some k) None) ≡ b
some_if true k = refl
some_if false k = refl

one_less : (k n : ℕ) → nat_lt (1 + k) (suc n) ≡ nat_lt k n
one_less k n = grind arith

-- a place is found exactly where some element passes
pub found_any : {X : Type 0} (p : X → Bool) (xs : List X) → is_some (position p xs) ≡ list_any p xs
found_any p [] = refl
found_any p (x ∷ xs) = elim (p x) as (λ b. is_some (cond (nat_lt (cond (not b) (1 + position_or_len p xs) 0) (length (x ∷ xs))) (Some (cond (not b) (1 + position_or_len p xs) 0)) None) ≡ (b || list_any p xs)) [
  | true ↦ some_if (nat_lt 0 (length (x ∷ xs))) 0 ∙ grind arith
  | false ↦ some_if (nat_lt (1 + position_or_len p xs) (length (x ∷ xs))) (1 + position_or_len p xs) ∙ one_less (position_or_len p xs) (length xs)
      ∙ sym (some_if (nat_lt (position_or_len p xs) (length xs)) (position_or_len p xs)) ∙ found_any p xs
]

-- the same name, up to the case of letters
same_name : (n : Name) (a b : List ℕ) → n ≡ lower_case b → str_eq_ignore_ascii_case a b ≡ is_name n (lower_case a)
same_name n a b e =
    ap (bytes_eq (lower_case a)) (sym e) ∙ bytes_eq-sym (lower_case a) n ∙ sym (is_eq-slice_cmp n (lower_case a))

any_named : (n : Name) (x : List ℕ) (row : Row) (rows : List Row) → is_name n (name_in row) ≡ true
    → list_any (is_newer (x ++ newer_ending) row.fields.name) rows ≡ list_any (is_twin x) (named n rows)
any_named n x row [] e = refl
any_named n x row (y ∷ ys) e =
    ap (λ b. (y.conda && (bytes_eq y.file (x ++ newer_ending) && b)) || list_any (is_newer (x ++ newer_ending) row.fields.name) ys)
    (same_name n y.fields.name row.fields.name (one_name n (name_in row) e))
    ∙ elim (is_name n (name_in y)) as (λ b. ((y.conda && (bytes_eq y.file (x ++ newer_ending) && b)) || list_any (is_newer (x ++ newer_ending) row.fields.name) ys)
    ≡ list_any (is_twin x) (cond b (y ∷ named n ys) (named n ys))) [
      | true ↦ ap (λ b. b || list_any (is_newer (x ++ newer_ending) row.fields.name) ys) (and_true y.conda (bytes_eq y.file (x ++ newer_ending)))
          ∙ ap (λ b. (y.conda && bytes_eq y.file (x ++ newer_ending)) || b) (any_named n x row ys e)
      | false ↦ ap (λ b. b || list_any (is_newer (x ++ newer_ending) row.fields.name) ys) (and_false y.conda (bytes_eq y.file (x ++ newer_ending))) ∙ any_named n x row ys e
    ]
  where
    and_true : (a b : Bool) → (a && (b && true)) ≡ (a && b)
    and_true true true = refl
    and_true true false = refl
    and_true false b = refl

    and_false : (a b : Bool) → (a && (b && false)) ≡ false
    and_false true true = refl
    and_false true false = refl
    and_false false b = refl

-- a row of a name has a twin exactly where it is left out among the rows of the name
pub twin_left : (n : Name) (rows : List Row) (i : ℕ) (row : Row) → slice_get rows i ≡ Some row → is_name n (name_in row) ≡ true
    → is_some (twin_at rows i) ≡ is_left_out (named n rows) row
twin_left n rows i row at e =
    ap (λ (o : Option Row). is_some (option_and_then (twin_of rows) o)) at ∙ by_kind row.conda (before_ending older_ending row.file)
  where
    by_kind : (conda : Bool) (stem : Option (List ℕ)) → is_some (cond conda None (newer_at rows row.fields.name stem)) ≡ (not conda && has_twin (named n rows) stem)
    by_kind true stem = refl
    by_kind false None = refl
    by_kind false (Some x) = found_any (is_newer (x ++ newer_ending) row.fields.name) rows ∙ any_named n x row rows e
