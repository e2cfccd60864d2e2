-- Names that are added, one after another.
use Rattle.std.proofs.Common.{◌≡◌, ℕ, zero, suc, ◌+◌, ◌<◌, arith, Bool, true, false, cond, ◌||◌, ◌&&◌, ◌==◌, List, [], ◌∷◌, ◌++◌, length, map, take, refl, sym, ap, subst, ◌∙◌, true≢false, append_assoc, filter, flat_map, Option, Some, None}
use Rattle.std.specs.Borrow.{Bor}
use Rattle.std.specs.Char.{to_ascii_lowercase}
use Rattle.std.specs.Cmp.{unsigned_Decides}
use Rattle.std.specs.List.{IsDistinct, AllByRecursion, list_all, list_any, slice_get, slice_index_or}
use Rattle.std.proofs.lemmas.List.{map-append, take_more}
use Rattle.std.proofs.lemmas.List.Elements.{filter-append}
use Rattle.std.proofs.lemmas.List.Concat.{flat_map-append}
use Rattle.std.proofs.lemmas.List.Folds.{list_any-append}
use Rattle.std.proofs.lemmas.Option.{slice_get-get_or}
use Rattle.std.specs.List.Sorted.{IsPermutation}
use Rattle.std.proofs.lemmas.List.Sorted.{IsPermutation-append_comm, IsPermutation-append_left, list_any-IsPermutation}
use Rattle.std.proofs.lemmas.Map.Keys.{IsDistinct-head, IsDistinct-tail, IsDistinct-cons, IsDistinct-IsPermutation}
use Rattle.std.specs.Option.{IfSome, option_copied, option_map, option_to_list}
use Rattle.mp_codec.proofs.KeyLemmas.{same_bytes}
use Rattle.shard_file.specs.Rows.{Row}
use Rattle.conda_name.specs.Name.{lower_case}
use Rattle.closure_plan.specs.Names.{Name, is_name, has_name}
use Rattle.closure_request.specs.Request.{Asking}
use Rattle.closure_plan.specs.Given.{names_of_text, names_if, deps_of, deps_if, passed, name_in, named, stays, is_asked, given_of, gives}
use Rattle.closure_plan.specs.Fresh.{AreThere, Grows, is_that, stands_in}
use Rattle.closure_plan.proofs.NameLemmas.{In, itself, one_name, or_left, or_right}

or_none : (a : Bool) → a ≡ (a || false)
or_none true = refl
or_none false = refl

or_assoc : (a b c : Bool) → ((a || b) || c) ≡ (a || (b || c))
or_assoc true b c = refl
or_assoc false b c = refl

-- nothing is added
pub grows_none : (names old : List Name) → Grows names old old []
grows_none names old = record { members = λ q. or_none (has_name (names ++ old) q); distinct = λ d. d }

-- one after another
pub grows_both : (names a b c xs ys : List Name) → Grows names a b xs → Grows names b c ys → Grows names a c (xs ++ ys)
grows_both names a b c xs ys g h = record {
  members = λ q. h.members q ∙ ap (λ x. x || has_name ys q) (g.members q) ∙ or_assoc (has_name (names ++ a) q) (has_name xs q) (has_name ys q) ∙ ap (λ x. has_name (names ++ a) q || x) (sym (list_any-append (is_name q) xs ys));
  distinct = λ d. h.distinct (g.distinct d);
}

module _ (names fresh : List Name) (n : Name) where
  or_true : (a b : Bool) → a ≡ true → a ≡ (a || b)
  or_true a b e = e ∙ sym (ap (λ x. x || b) e)

  -- a name that is listed
  pub grows_known : (has_name names n || has_name fresh n) ≡ true → Grows names fresh fresh (n ∷ [])
  grows_known e = record {
    members = λ q. elim (is_name q n) as (λ b. is_name q n ≡ b → has_name (names ++ fresh) q ≡ (has_name (names ++ fresh) q || (b || false))) [
      | true ↦ λ same. let there : In q (names ++ fresh) = subst (λ x. In x (names ++ fresh)) (sym (one_name q n same)) (list_any-append (is_name n) names fresh ∙ e) in there ∙ sym (or_right (has_name (names ++ fresh) q) (true || false) refl)
      | false ↦ λ same. or_none (has_name (names ++ fresh) q)
    ] refl;
    distinct = λ d. d;
  }

  flip : (x : Name) → is_name n x ≡ false → is_name x n ≡ false
  flip x e = elim (is_name x n) as (λ b. is_name x n ≡ b → b ≡ false) [
    | true ↦ λ s. absurd (true≢false (sym (ap (λ m. is_name n m) (one_name x n s) ∙ itself n) ∙ e))
    | false ↦ λ s. refl
  ] refl

  all_flipped : (xs : List Name) → has_name xs n ≡ false → AllByRecursion (λ x. is_name x n ≡ false) xs
  all_flipped [] e = tt
  all_flipped (x ∷ xs) e = elim (is_name n x) as (λ b. is_name n x ≡ b → (b || has_name xs n) ≡ false → AllByRecursion (λ x. is_name x n ≡ false) (x ∷ xs)) [
    | true ↦ λ s e. absurd (true≢false e)
    | false ↦ λ s e. (flip x s, all_flipped xs e)
  ] refl e

  one_more : (x : Name) (xs : List Name) → AllByRecursion (λ y. is_name x y ≡ false) xs → is_name x n ≡ false → AllByRecursion (λ y. is_name x y ≡ false) (xs ++ n ∷ [])
  one_more x [] a e = (e, tt)
  one_more x (y ∷ ys) a e = (a.0, one_more x ys a.1 e)

  distinct_push : (xs : List Name) → IsDistinct is_name xs → AllByRecursion (λ x. is_name x n ≡ false) xs → IsDistinct is_name (xs ++ n ∷ [])
  distinct_push [] d a = IsDistinct-cons is_name n [] tt d
  distinct_push (x ∷ xs) d a = IsDistinct-cons is_name x (xs ++ n ∷ []) (one_more x xs (IsDistinct-head is_name x xs d) a.0) (distinct_push xs (IsDistinct-tail is_name x xs d) a.1)

  -- a name that isn't listed
  pub grows_push : (has_name names n || has_name fresh n) ≡ false → Grows names fresh (fresh ++ n ∷ []) (n ∷ [])
  grows_push e = record {
    members = λ q. ap (λ ns. has_name ns q) (sym (append_assoc names fresh (n ∷ []))) ∙ list_any-append (is_name q) (names ++ fresh) (n ∷ []);
    distinct = λ d. subst (IsDistinct is_name) (append_assoc names fresh (n ∷ [])) (distinct_push (names ++ fresh) d (all_flipped (names ++ fresh) (list_any-append (is_name n) names fresh ∙ e)));
  }

-- the new names in another order
pub grows_turned : (names old new turned xs : List Name) → Grows names old new xs → IsPermutation new turned → Grows names old turned xs
grows_turned names old new turned xs g p = record {
  members = λ q. list_any-append (is_name q) names turned ∙ ap (λ b. has_name names q || b) (sym (list_any-IsPermutation (is_name q) new turned p)) ∙ sym (list_any-append (is_name q) names new) ∙ g.members q;
  distinct = λ d.
      let front : IsDistinct is_name (new ++ names) = IsDistinct-IsPermutation is_name flipped (names ++ new) (new ++ names) (IsPermutation-append_comm names new) (g.distinct d) in
      let other : IsDistinct is_name (turned ++ names) = IsDistinct-IsPermutation is_name flipped (new ++ names) (turned ++ names) (IsPermutation-append_left names new turned p) front in
      IsDistinct-IsPermutation is_name flipped (turned ++ names) (names ++ turned) (IsPermutation-append_comm turned names) other;
}
  where
    flipped : (x y : Name) → is_name x y ≡ is_name y x
    flipped x y = elim (is_name y x) as (λ b. is_name y x ≡ b → is_name x y ≡ b) [
      | true ↦ λ e. ap (is_name x) (one_name y x e) ∙ itself x
      | false ↦ λ e. flip [] [] y x e
    ] refl

-- ---- names that are there already

-- what is there stays there
there_stays : (names a b xs some : List Name) → Grows names a b xs → AreThere names a some → AreThere names b some
there_stays names a b xs some g f q e = g.members q ∙ or_left (has_name (names ++ a) q) (has_name xs q) (f q e)

pub some_stay : {V : Type 0} (o : Option V) (f : V → List Name) (names a b xs : List Name) → Grows names a b xs → IfSome o (λ v. AreThere names a (f v)) → IfSome o (λ v. AreThere names b (f v))
some_stay (Some v) f names a b xs g h = there_stays names a b xs (f v) g h
some_stay None f names a b xs g h = tt

-- what was added is there
pub added_there : (names a b xs : List Name) → Grows names a b xs → AreThere names b xs
added_there names a b xs g q e = g.members q ∙ or_right (has_name (names ++ a) q) (has_name xs q) e

-- the names of a text are among those of texts of which it is one
there_in : (texts : List (List ℕ)) (i : ℕ) (text : List ℕ) → is_that text (slice_get texts i) ≡ true → (q : Name) → has_name (names_of_text text) q ≡ true → has_name (flat_map names_of_text texts) q ≡ true
there_in [] i text e q h = absurd (true≢false (sym e))
there_in (t ∷ ts) zero text e q h =
    list_any-append (is_name q) (names_of_text t) (flat_map names_of_text ts)
    ∙ or_left (has_name (names_of_text t) q) (has_name (flat_map names_of_text ts) q) (ap (λ x. has_name (names_of_text x) q) (same_bytes t text e) ∙ h)
there_in (t ∷ ts) (suc i) text e q h =
    list_any-append (is_name q) (names_of_text t) (flat_map names_of_text ts)
    ∙ or_right (has_name (names_of_text t) q) (has_name (flat_map names_of_text ts) q) (there_in ts i text e q h)

-- a text whose names are there adds none
pub known_text : {V : Type 0} (o : Option V) (f : V → List (List ℕ)) (names fresh : List Name) (i : ℕ) (text : List ℕ)
    → IfSome o (λ v. AreThere names fresh (flat_map names_of_text (f v))) → stands_in i text (option_map f o) ≡ true → Grows names fresh fresh (names_of_text text)
known_text None f names fresh i text h e = absurd (true≢false (sym e))
known_text (Some v) f names fresh i text h e = record {
  members = λ q. elim (has_name (names_of_text text) q) as (λ b. has_name (names_of_text text) q ≡ b → has_name (names ++ fresh) q ≡ (has_name (names ++ fresh) q || b)) [
    | true ↦ λ t. let there : has_name (names ++ fresh) q ≡ true = h q (there_in (f v) i text e q t) in there ∙ sym (or_right (has_name (names ++ fresh) q) true refl)
    | false ↦ λ t. or_none (has_name (names ++ fresh) q)
  ] refl;
  distinct = λ d. d;
}

-- a name that one of some texts is about
any_led : (f : Name → List Name) (q : Name) (xs : List Name) → has_name (flat_map f xs) q ≡ list_any (λ x. has_name (f x) q) xs
any_led f q [] = refl
any_led f q (x ∷ xs) = list_any-append (is_name q) (f x) (flat_map f xs) ∙ ap (λ b. has_name (f x) q || b) (any_led f q xs)

-- the texts in another order
pub grows_by_texts : (names old new texts turned : List Name) → IsPermutation texts turned → Grows names old new (flat_map names_of_text turned) → Grows names old new (flat_map names_of_text texts)
grows_by_texts names old new texts turned p g = record {
  members = λ q. g.members q ∙ ap (λ b. has_name (names ++ old) q || b)
      (any_led names_of_text q turned ∙ sym (list_any-IsPermutation (λ t. has_name (names_of_text t) q) texts turned p) ∙ sym (any_led names_of_text q texts));
  distinct = g.distinct;
}

-- ---- texts that are taken one by one

texts_taken : (texts : List (List ℕ)) (i : ℕ) → i < length texts → take (i + 1) texts ≡ take i texts ++ option_to_list (slice_get texts i)
texts_taken texts i l = take_more texts i [] l ∙ ap (λ o. take i texts ++ option_to_list o) (sym (slice_get-get_or texts i [] l))

copied_list : (o : Option (Bor (List ℕ))) → map (λ t. t.now) (option_to_list o) ≡ option_to_list (option_copied o)
copied_list None = refl
copied_list (Some t) = refl

-- a text more of all texts
pub text_more : (old new : List (Bor (List ℕ))) (o : Option (Bor (List ℕ))) (all : List (List ℕ)) (i : ℕ) → i < length all
    → map (λ t. t.now) old ≡ take i all → option_copied o ≡ slice_get all i → new ≡ old ++ option_to_list o → map (λ t. t.now) new ≡ take (i + 1) all
text_more old new o all i l so there is =
    ap (map (λ t. t.now)) is ∙ map-append (λ t. t.now) old (option_to_list o) ∙ ap (λ (xs : List (List ℕ)). xs ++ map (λ t. t.now) (option_to_list o)) so
    ∙ ap (λ (xs : List (List ℕ)). take i all ++ xs) (copied_list o ∙ ap option_to_list there) ∙ sym (texts_taken all i l)

none_behind : (xs : List Name) → xs ++ [] ≡ xs
none_behind [] = refl
none_behind (x ∷ xs) = ap (λ ys. x ∷ ys) (none_behind xs)

-- the names of a text more
pub led_more : (texts : List (Bor (List ℕ))) (i : ℕ) (d : Bor (List ℕ)) → i < length texts
    → flat_map names_of_text (map (λ t. t.now) (take (i + 1) texts)) ≡ flat_map names_of_text (map (λ t. t.now) (take i texts)) ++ names_of_text (slice_index_or texts i d).now
led_more texts i d l =
    ap (λ (ts : List (Bor (List ℕ))). flat_map names_of_text (map (λ t. t.now) ts)) (take_more texts i d l)
    ∙ ap (flat_map names_of_text) (map-append (λ t. t.now) (take i texts) (slice_index_or texts i d ∷ []))
    ∙ flat_map-append names_of_text (map (λ t. t.now) (take i texts)) ((slice_index_or texts i d).now ∷ [])
    ∙ ap (λ ys. flat_map names_of_text (map (λ t. t.now) (take i texts)) ++ ys) (none_behind (names_of_text (slice_index_or texts i d).now))

-- ---- loops

-- a text more
pub texts_more : (texts : List (List ℕ)) (i : ℕ) (d : List ℕ) → i < length texts → flat_map names_of_text (take (i + 1) texts) ≡ flat_map names_of_text (take i texts) ++ names_if (slice_get texts i)
texts_more texts i d l =
    ap (flat_map names_of_text) (take_more texts i d l) ∙ flat_map-append names_of_text (take i texts) (slice_index_or texts i d ∷ [])
    ∙ ap (λ xs. flat_map names_of_text (take i texts) ++ xs) (append_none (names_of_text (slice_index_or texts i d)))
    ∙ ap (λ o. flat_map names_of_text (take i texts) ++ names_if o) (sym (slice_get-get_or texts i d l))
  where
    append_none : (xs : List Name) → xs ++ [] ≡ xs
    append_none [] = refl
    append_none (x ∷ xs) = ap (λ ys. x ∷ ys) (append_none xs)

-- a row more
pub rows_more : (p : Row → Bool) (rows : List Row) (i : ℕ) (d : Row) → i < length rows → flat_map deps_of (filter p (take (i + 1) rows)) ≡ flat_map deps_of (filter p (take i rows)) ++ deps_if (passed p (slice_get rows i))
rows_more p rows i d l =
    ap (λ xs. flat_map deps_of (filter p xs)) (take_more rows i d l) ∙ ap (flat_map deps_of) (filter-append p (take i rows) (slice_index_or rows i d ∷ []))
    ∙ flat_map-append deps_of (filter p (take i rows)) (filter p (slice_index_or rows i d ∷ []))
    ∙ ap (λ xs. flat_map deps_of (filter p (take i rows)) ++ xs) (single (slice_index_or rows i d))
    ∙ ap (λ o. flat_map deps_of (filter p (take i rows)) ++ deps_if (passed p o)) (sym (slice_get-get_or rows i d l))
  where
    append_none : (xs : List Name) → xs ++ [] ≡ xs
    append_none [] = refl
    append_none (x ∷ xs) = ap (λ ys. x ∷ ys) (append_none xs)

    single : (row : Row) → flat_map deps_of (filter p (row ∷ [])) ≡ deps_if (passed p (Some row))
    single row = elim (p row) as (λ b. flat_map deps_of (cond b (row ∷ []) []) ≡ deps_if (cond b (Some row) None)) [
      | true ↦ append_none (deps_of row)
      | false ↦ refl
    ]

-- two tests, one after another
pub filter_filter : {A : Type 0} (p q : A → Bool) (xs : List A) → filter p (filter q xs) ≡ filter (λ x. q x && p x) xs
filter_filter p q [] = refl
filter_filter p q (x ∷ xs) = elim (q x) as (λ b. filter p (cond b (x ∷ filter q xs) (filter q xs)) ≡ cond (b && p x) (x ∷ filter (λ x. q x && p x) xs) (filter (λ x. q x && p x) xs)) [
  | true ↦ ap (λ ys. cond (p x) (x ∷ ys) ys) (filter_filter p q xs)
  | false ↦ filter_filter p q xs
]

-- the given rows are those that pass one test
pub given_rows : (r : Asking) (s : ℕ) (n : Name) (rows : List Row) → given_of r s n rows ≡ filter (gives r s n rows) rows
given_rows r s n rows =
    ap (filter (is_asked r s n)) (filter_filter (stays r.format (named n rows)) (λ row. is_name n (name_in row)) rows)
    ∙ filter_filter (is_asked r s n) (λ row. is_name n (name_in row) && stays r.format (named n rows) row) rows

pub rows_on : (p : Row → Bool) (rows : List Row) (i : ℕ) → i < length rows → flat_map deps_of (filter p (take (i + 1) rows)) ≡ flat_map deps_of (filter p (take i rows)) ++ deps_if (passed p (slice_get rows i))
rows_on p [] i l = absurd (omega arith)
rows_on p (x ∷ xs) i l = rows_more p (x ∷ xs) i x l

-- ---- a name in lower case

pub lower_is : (b : Bool) (x n : Name) → ((b ≡ true → x ≡ n) × (x ≡ n → b ≡ true)) → b ≡ is_name n x
lower_is b x n e = elim (is_name n x) as (λ t. is_name n x ≡ t → b ≡ t) [
  | true ↦ λ same. e.1 (sym (one_name n x same))
  | false ↦ λ apart. elim b as (λ t. (t ≡ true → x ≡ n) → t ≡ false) [
    | true ↦ λ k. absurd (true≢false (sym (ap (is_name n) (k refl) ∙ itself n) ∙ apart))
    | false ↦ λ k. refl
  ] (e.0)
] refl

-- a text without letters in upper case
pub lower_itself : (text : List ℕ) → list_all (λ b. b == to_ascii_lowercase b) text ≡ true → lower_case text ≡ text
lower_itself [] all = refl
lower_itself (b ∷ bs) all = elim (b == to_ascii_lowercase b) as (λ c. (b == to_ascii_lowercase b) ≡ c → (c && list_all (λ b. b == to_ascii_lowercase b) bs) ≡ true → map to_ascii_lowercase (b ∷ bs) ≡ b ∷ bs) [
  | true ↦ λ same rest. ap (λ x. x ∷ map to_ascii_lowercase bs) (sym ((unsigned_Decides b (to_ascii_lowercase b)).0 same)) ∙ ap (λ xs. b ∷ xs) (lower_itself bs rest)
  | false ↦ λ _ e. absurd (true≢false (sym e))
] refl all
