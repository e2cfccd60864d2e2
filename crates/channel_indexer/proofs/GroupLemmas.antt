-- A map from names to records, as groups.
use Rattle.std.proofs.Common.{◌≡◌, ◌≢◌, ℕ, Bool, true, false, cond, List, [], ◌∷◌, map, Option, Some, None, IfSome, IsSome, suc, Vec, length, ◌++◌, append_assoc, append-nil, arith, refl, sym, ap, subst, ◌∙◌}
use Rattle.std.specs.declared.alloc.Global.{Global}
use Rattle.std.specs.declared.string.String.{String}
use Rattle.std.specs.declared.cmp.Ordering.TheVariants.{Less}
use Rattle.std.specs.String.{string_bytes, string_cmp, string_cmp_total}
use Rattle.std.specs.Option.{option_map_or}
use Rattle.std.specs.Ordering.{nat_cmp, is_eq}
use Rattle.std.specs.Cmp.Lexicographic.{slice_cmp}
use Rattle.std.specs.Str.{bytes_eq}
use Rattle.std.specs.List.{All, AllByRecursion, filter, slice_get}
use Rattle.std.specs.List.Sorted.{IsStrictlySortedBy}
use Rattle.std.specs.Map.{lookup, keys_of, values_of}
use Rattle.std.specs.BTreeMap.{BTreeMap, get_by_text}
use Rattle.std.proofs.lemmas.Slice.Eq.{bytes_eq-Decides}
use Rattle.std.proofs.Math.ListN.{get_or-map}
use Rattle.std.proofs.lemmas.List.{length-map}
use Rattle.std.proofs.lemmas.List.Elements.{All-map, All-cons, All-append, filter-append}
use Rattle.std.proofs.lemmas.Cmp.{eq_by_cmp_equiv}
use Rattle.std.proofs.lemmas.Map.Keys.{IsDistinct-from_sorted}
use Rattle.std.proofs.lemmas.Map.Views.{All-values_from_lookup, All-keys_from_lookup}
use Rattle.std.proofs.lemmas.Map.Text.{is_eq-slice_cmp}
use Rattle.conda_name.specs.Name.{IsName}
use Rattle.shard_file.specs.Rows.{Row}
use Rattle.channel_indexer.specs.Groups.{Group, rows_under, is_named, IsNamed, name_in}
use Rattle.channel_indexer.specs.Grouped.{group_of, IsRun}

abbrev pub Entries : Type 0
Entries = List (String Global × Vec Row Global)

-- the rows under a name are those of its entry
pub entries-under : (name : List ℕ) (es : Entries)
    → rows_under name (map group_of es) ≡ option_map_or (λ (g : Vec Row Global). g.items) (lookup (λ (k : String Global). is_eq (slice_cmp nat_cmp name (string_bytes k))) es) []
entries-under name [] = refl
entries-under name (e ∷ es) =
    ap (λ b. cond b e.1.items (rows_under name (map group_of es))) (sym (is_eq-slice_cmp name (string_bytes e.0)))
    ∙ go (is_eq (slice_cmp nat_cmp name (string_bytes e.0))) (entries-under name es)
  where
    go : (b : Bool) → rows_under name (map group_of es) ≡ option_map_or (λ (g : Vec Row Global). g.items) (lookup (λ (k : String Global). is_eq (slice_cmp nat_cmp name (string_bytes k))) es) []
        → cond b e.1.items (rows_under name (map group_of es)) ≡ option_map_or (λ (g : Vec Row Global). g.items) (cond b (Some e.1) (lookup (λ (k : String Global). is_eq (slice_cmp nat_cmp name (string_bytes k))) es)) []
    go true later = refl
    go false later = later

-- names of groups that come behind a key
behind-key : (k : String Global) (es : Entries) → AllByRecursion (λ l. string_cmp k l ≡ Less) (keys_of es) → AllByRecursion (λ l. slice_cmp nat_cmp (string_bytes k) l ≡ Less) (map (λ (g : Group). g.name) (map group_of es))
behind-key k [] h = h
behind-key k (e ∷ es) h = (h.0, behind-key k es h.1)

-- groups of a map ascend by their names
pub entries-ascend : (es : Entries) → IsStrictlySortedBy string_cmp (keys_of es) → IsStrictlySortedBy (slice_cmp nat_cmp) (map (λ (g : Group). g.name) (map group_of es))
unfolding IsStrictlySortedBy
entries-ascend [] h = h
entries-ascend (e ∷ es) h = (behind-key e.0 es h.0, entries-ascend es h.1)

abbrev first : String Global × Vec Row Global → String Global
first e = e.0

abbrev second : String Global × Vec Row Global → Vec Row Global
second e = e.1

-- no group of a map is empty where no entry is
pub entries-some : (m : BTreeMap (String Global) (Vec Row Global)) → IsStrictlySortedBy string_cmp (keys_of m.entries)
    → ((name : List ℕ) → IfSome (get_by_text m name) (λ g. g.items ≢ [])) → All (λ (g : Group). g.rows ≢ []) (map group_of m.entries)
entries-some m ordered some =
    let values : All (λ (v : Vec Row Global). v.items ≢ []) (values_of m.entries) =
    All-values_from_lookup (eq_by_cmp_equiv string_cmp_total) (λ (v : Vec Row Global). v.items ≢ []) m.entries (IsDistinct-from_sorted string_cmp (keys_of m.entries) ordered) (λ q. some (string_bytes q)) in
    All-map (λ (g : Group). g.rows ≢ []) group_of m.entries (λ k d h.
    subst (λ (v : Vec Row Global). v.items ≢ []) (get_or-map second m.entries k d) (values k (second d) (rw length-map h)))

-- a list that is taken apart from its front
pub all-on : {X : Type 0} (front left rest : List X) (x : X) → left ≡ x ∷ rest → front ++ left ≡ (front ++ x ∷ []) ++ rest
all-on front left rest x e = ap (λ l. front ++ l) e ∙ sym (append_assoc front (x ∷ []) rest)

-- nothing is left of it
pub all-end : {X : Type 0} (front left all : List X) → all ≡ front ++ left → length left ≡ 0 → all ≡ front
all-end front [] all e none = e ∙ append-nil front
all-end front (x ∷ left) all e none = absurd (omega arith)

-- a name that some row has is a name, where each row has one
filter-named : (name : List ℕ) (rows : List Row) → All IsNamed rows → (filter (is_named name) rows ≡ [] → ⊥) → IsName name
filter-named name [] all some = absurd (some refl)
filter-named name (r ∷ rs) all some = go (λ h. filter-named name rs (λ k d low. all (suc k) d (omega arith)) h) (bytes_eq name (name_in r)) refl some
  where
    go : ((filter (is_named name) rs ≡ [] → ⊥) → IsName name) → (b : Bool) → bytes_eq name (name_in r) ≡ b → (cond b (r ∷ filter (is_named name) rs) (filter (is_named name) rs) ≡ [] → ⊥) → IsName name
    go later true e h = subst IsName (sym ((bytes_eq-Decides name (name_in r)).0 e)) (all 0 r (omega arith))
    go later false e h = later h

pub named-by : (name : List ℕ) (found : Option (Vec Row Global)) (rows : List Row)
    → option_map_or (λ (g : Vec Row Global). g.items) found [] ≡ filter (is_named name) rows → IfSome found (λ g. g.items ≢ [])
    → All IsNamed rows → IsSome found → IsName name
named-by name None rows each some all is = absurd (cc)
named-by name (Some g) rows each some all is = filter-named name rows all (λ none. some (each ∙ none))

-- each name of a map that has names alone as its keys is a name
pub entries-named : (m : BTreeMap (String Global) (Vec Row Global)) → ((name : List ℕ) → IsSome (get_by_text m name) → IsName name)
    → All IsName (map (λ (g : Group). g.name) (map group_of m.entries))
entries-named m named =
    All-map IsName (λ (g : Group). g.name) (map group_of m.entries)
    (All-map (λ (g : Group). IsName g.name) group_of m.entries (λ k d h.
    subst (λ (q : String Global). IsName (string_bytes q)) (get_or-map first m.entries k d)
    (All-keys_from_lookup (eq_by_cmp_equiv string_cmp_total) (λ (q : String Global). IsName (string_bytes q)) m.entries (λ q found. named (string_bytes q) found) k (first d) (rw length-map h))))

-- ---- runs

-- one row is a run
pub one_run : (run : List Row) (r : Row) → run ≡ [] → IsRun (run ++ r ∷ [])
one_run [] r e = (name_in r, All-cons (λ (x : Row). name_in x ≡ name_in r) r [] refl (λ k d h. absurd (omega arith)))
one_run (x ∷ rest) r e = absurd (cc)

-- a row of the name of a run's first row goes on with it
pub run-on : (run : List Row) (first r : Row) → IsRun run → slice_get run 0 ≡ Some first → name_in first ≡ name_in r → IsRun (run ++ r ∷ [])
run-on [] first r is at same = absurd (cc)
run-on (x ∷ rest) first r is at same =
    let front : x ≡ first = cc (at) in
    let name : name_in r ≡ is.0 = sym same ∙ ap name_in (sym front) ∙ is.1 0 x (omega arith) in
    (is.0, All-append (λ (y : Row). name_in y ≡ is.0) (x ∷ rest) (r ∷ []) is.1 (All-cons (λ (y : Row). name_in y ≡ is.0) r [] name (λ k d h. absurd (omega arith))))

-- the rows of a run under its name
run-all : (name n : List ℕ) (run : List Row) → bytes_eq name n ≡ true → All (λ r. name_in r ≡ n) run → filter (is_named name) run ≡ run
run-all name n [] e all = refl
run-all name n (r ∷ rest) e all =
    ap (λ (b : Bool). cond b (r ∷ filter (is_named name) rest) (filter (is_named name) rest)) (ap (bytes_eq name) (all 0 r (omega arith)) ∙ e)
    ∙ ap (λ (l : List Row). r ∷ l) (run-all name n rest e (λ k d h. all (suc k) d (omega arith)))

-- and under another name
run-none : (name n : List ℕ) (run : List Row) → bytes_eq name n ≡ false → All (λ r. name_in r ≡ n) run → filter (is_named name) run ≡ []
run-none name n [] e all = refl
run-none name n (r ∷ rest) e all =
    ap (λ (b : Bool). cond b (r ∷ filter (is_named name) rest) (filter (is_named name) rest)) (ap (bytes_eq name) (all 0 r (omega arith)) ∙ e)
    ∙ run-none name n rest e (λ k d h. all (suc k) d (omega arith))

-- the rows of a run under a name
pub run-under : (name : List ℕ) (run : List Row) (first : Row) (key : List ℕ) → IsRun run → slice_get run 0 ≡ Some first → key ≡ name_in first
    → filter (is_named name) run ≡ cond (bytes_eq name key) run []
run-under name [] first key is at e = absurd (cc)
run-under name (x ∷ rest) first key is at e =
    let front : x ≡ first = cc (at) in
    let n : is.0 ≡ key = sym (is.1 0 x (omega arith)) ∙ ap name_in front ∙ sym e in
    go (bytes_eq name is.0) refl ∙ ap (λ (k : List ℕ). cond (bytes_eq name k) (x ∷ rest) []) n
  where
    go : (b : Bool) → bytes_eq name is.0 ≡ b → filter (is_named name) (x ∷ rest) ≡ cond (bytes_eq name is.0) (x ∷ rest) []
    go true b = run-all name is.0 (x ∷ rest) b is.1 ∙ sym (ap (λ (b : Bool). cond b (x ∷ rest) []) b)
    go false b = run-none name is.0 (x ∷ rest) b is.1 ∙ sym (ap (λ (b : Bool). cond b (x ∷ rest) []) b)

-- a run with a first row is not empty
pub run-some : (run : List Row) (first : Row) → slice_get run 0 ≡ Some first → run ≢ []
run-some [] first at = absurd (cc)
run-some (x ∷ rest) first at = λ e. absurd (cc)

-- a row goes behind the run and behind all rows so far
pub run-pushed : (name : List ℕ) (at run so_far : List Row) (r : Row) → at ++ filter (is_named name) run ≡ filter (is_named name) so_far
    → at ++ filter (is_named name) (run ++ r ∷ []) ≡ filter (is_named name) (so_far ++ r ∷ [])
run-pushed name at run so_far r h =
    ap (λ (l : List Row). at ++ l) (filter-append (is_named name) run (r ∷ []))
    ∙ sym (append_assoc at (filter (is_named name) run) (filter (is_named name) (r ∷ [])))
    ∙ ap (λ (l : List Row). l ++ filter (is_named name) (r ∷ [])) h
    ∙ sym (filter-append (is_named name) so_far (r ∷ []))

-- no run is left
pub run-ended : (name : List ℕ) (at run all : List Row) → run ≡ [] → at ++ filter (is_named name) run ≡ all → at ≡ all
run-ended name at run all none h = sym (append-nil at) ∙ ap (λ (l : List Row). at ++ filter (is_named name) l) (sym none) ∙ h
