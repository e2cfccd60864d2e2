-- What can't be written is longer than the limit of a shard or an index.
use Rattle.std.proofs.Common.{◌≡◌, ◌≢◌, ℕ, zero, suc, ◌<◌, ◌≤◌, ◌^◌, Bool, true, false, cond, inl, inr, List, [], ◌∷◌, ◌++◌, length, get_or, Option, Some, None, IfSome, refl, sym, ap, ◌∙◌, subst, arith, length-append}
use Rattle.std.specs.Prelude.{not}
use Rattle.std.specs.Option.{option_map}
use Rattle.std.specs.List.{All, filter, flat_map}
use Rattle.std.specs.List.Sorted.{IsStrictlySortedBy}
use Rattle.std.specs.Char.{to_ascii_lowercase}
use Rattle.std.proofs.lemmas.Bool.{cases_lt}
use Rattle.std.proofs.lemmas.List.Elements.{All-from_recursion}
use Rattle.std.proofs.lemmas.Slice.Eq.{bytes_eq-Decides}
use Rattle.std.proofs.lemmas.List.{length-map}
use Rattle.std.proofs.lemmas.List.Folds.{length-flat_map-take}
use Rattle.std.proofs.lemmas.List.Filters.{length-filter_both}
use Rattle.mp_codec.specs.Writing.{str_bytes, str_head, array_head, map_head, pair_bytes, pairs_bytes, known_map_bytes, value_count}
use Rattle.conda_name.specs.Name.{lower_case}
use Rattle.conda_record.specs.Record.{Fields, record_keys}
use Rattle.conda_record.specs.Writing.{record_bytes, values_of, texts_bytes, texts_if_any, IsShort, AreShort, IsWritable}
use Rattle.shard_file.specs.Rows.{Row, shard_keys}
use Rattle.shard_file.specs.Writing.{shard_bytes, files_bytes, file_bytes, stands_in, row_cmp, IsWritableRow, AreWritable}
use Rattle.gateway_words.specs.Limits.{most_served_bytes}
use Rattle.channel_indexer.specs.Groups.{Group, name_in, is_named, rows_under}
use Rattle.channel_indexer.specs.Indexing.{SaysGroups}
use Rattle.channel_indexer.specs.Shards.{IsFit}
use Rattle.channel_indexer.proofs.AscendLemmas.{each-under, said-ascend}

-- a text is no longer than its bytes
str-long : (text : List ℕ) → length text ≤ length (str_bytes text)
str-long text = omega (arith, length-append (str_head (length text)) text)

-- a list of pieces is as long as one of them
piece-long : {X : Type 0} (f : X → List ℕ) (xs : List X) (k : ℕ) (d : X) → k < length xs → length (f (get_or xs k d)) ≤ length (flat_map f xs)
piece-long f xs k d lt = omega (arith, length-flat_map-take f xs k d lt)

-- a list of pieces that have a byte each is as long as it has pieces
pieces-many : {X : Type 0} (f : X → List ℕ) (xs : List X) → ((x : X) → 0 < length (f x)) → length xs ≤ length (flat_map f xs)
pieces-many f [] some = omega arith
pieces-many f (x ∷ xs) some = omega (arith, pieces-many f xs some, some x, length-append (f x) (flat_map f xs))

-- a str has a byte
str-some : (text : List ℕ) → 0 < length (str_bytes text)
str-some text = grind (arith, length-append (str_head (length text)) text)

-- the value behind a key is no longer than the map, by the place of the key
value-long : (names : List (List ℕ)) (values : List (Option (List ℕ))) (k : ℕ) → k < length names → k < length values
    → IfSome (get_or values k None) (λ bytes. length bytes ≤ length (pairs_bytes names values))
value-long [] values k low high = absurd (omega arith)
value-long (name ∷ names) [] k low high = absurd (omega arith)
value-long (name ∷ names) (Some v ∷ values) zero low high =
    omega (arith, length-append (str_bytes name ++ v) (pairs_bytes names values), length-append (str_bytes name) v)
value-long (name ∷ names) (None ∷ values) zero low high = tt
value-long (name ∷ names) (v ∷ values) (suc k) low high =
    longer (get_or values k None) (pair_bytes name v) (pairs_bytes names values) (value-long names values k (omega arith) (omega arith))
  where
    longer : (o : Option (List ℕ)) (front rest : List ℕ) → IfSome o (λ bytes. length bytes ≤ length rest) → IfSome o (λ bytes. length bytes ≤ length (front ++ rest))
    longer None front rest h = tt
    longer (Some bytes) front rest h = omega (arith, h, length-append front rest)

-- ---- records

-- what is written behind a key of a record is no longer than the record
field-long : (f : Fields) (k : ℕ) → k < 13 → IfSome (get_or (values_of f) k None) (λ bytes. length bytes ≤ length (record_bytes f))
unfolding record_bytes
field-long f k lt = longer (get_or (values_of f) k None) (value-long record_keys (values_of f) k (omega arith) (omega arith))
  where
    longer : (o : Option (List ℕ)) → IfSome o (λ bytes. length bytes ≤ length (pairs_bytes record_keys (values_of f))) → IfSome o (λ bytes. length bytes ≤ length (known_map_bytes record_keys (values_of f)))
    longer None h = tt
    longer (Some bytes) h = omega (arith, h, length-append (map_head (value_count (values_of f))) (pairs_bytes record_keys (values_of f)))

-- the texts of a list whose bytes are within the limit are short
texts-short : (texts : List (List ℕ)) → length (texts_bytes texts) ≤ most_served_bytes → AreShort texts
texts-short texts low =
    let pieces : length (flat_map str_bytes texts) ≤ most_served_bytes = omega (arith, length-append (array_head (length texts)) (flat_map str_bytes texts)) in
    record {
      many = omega (arith, pieces-many str_bytes texts str-some);
      each = λ k d lt. omega (arith, piece-long str_bytes texts k d lt, str-long (get_or texts k d));
    }

texts-if-any-short : (texts : List (List ℕ)) → IfSome (texts_if_any texts) (λ bytes. length bytes ≤ most_served_bytes) → AreShort texts
texts-if-any-short [] low = record { many = omega arith; each = λ k d lt. absurd (omega arith) }
texts-if-any-short (text ∷ texts) low = texts-short (text ∷ texts) low

optional-short : (text : Option (List ℕ)) → IfSome (option_map str_bytes text) (λ bytes. length bytes ≤ most_served_bytes) → IfSome text IsShort
optional-short None low = tt
optional-short (Some text) low = omega (arith, str-long text, low)

-- a record within the limit can be written
record-writable : (f : Fields) → length (record_bytes f) ≤ most_served_bytes → IsWritable f
record-writable f low =
    let within : (k : ℕ) → k < 13 → IfSome (get_or (values_of f) k None) (λ bytes. length bytes ≤ most_served_bytes) =
    λ k lt. lower (get_or (values_of f) k None) (field-long f k lt) in
    record {
      name_short = omega (arith, str-long f.name, within 0 (omega arith));
      version_short = omega (arith, str-long f.version, within 1 (omega arith));
      build_short = omega (arith, str-long f.build, within 2 (omega arith));
      depends_short = texts-short f.depends (within 4 (omega arith));
      constrains_short = texts-if-any-short f.constrains (within 5 (omega arith));
      subdir_short = optional-short f.subdir (within 6 (omega arith));
      license_short = optional-short f.license (within 11 (omega arith));
      noarch_short = optional-short f.noarch (within 12 (omega arith));
    }
  where
    lower : (o : Option (List ℕ)) → IfSome o (λ bytes. length bytes ≤ length (record_bytes f)) → IfSome o (λ bytes. length bytes ≤ most_served_bytes)
    lower None h = tt
    lower (Some bytes) h = omega (arith, h, low)

-- ---- rows

-- a row within the limit can be written
row-writable : (r : Row) → length (file_bytes r) ≤ most_served_bytes → IsWritableRow r
unfolding file_bytes
row-writable r low = record {
  file_short = omega (arith, str-long r.file, length-append (str_bytes r.file) (record_bytes r.fields));
  record_writable = record-writable r.fields (omega (arith, length-append (str_bytes r.file) (record_bytes r.fields)));
}

-- a row has a byte
row-some : (r : Row) → 0 < length (file_bytes r)
unfolding file_bytes
row-some r = omega (arith, str-some r.file, length-append (str_bytes r.file) (record_bytes r.fields))

-- the rows of a map are no longer than the shard
part-long : (conda : Bool) (rows : List Row) → length (flat_map file_bytes (filter (stands_in conda) rows)) ≤ length (shard_bytes rows)
unfolding shard_bytes files_bytes
part-long conda rows = by conda where
  values : List (Option (List ℕ))
  values = Some (files_bytes (filter (stands_in false) rows)) ∷ Some (files_bytes (filter (stands_in true) rows)) ∷ Some (array_head 0) ∷ []

  by : (conda : Bool) → length (flat_map file_bytes (filter (stands_in conda) rows)) ≤ length (shard_bytes rows)
  by false = omega (arith, value-long shard_keys values 0 (omega arith) (omega arith), length-append (map_head (length (filter (stands_in false) rows))) (flat_map file_bytes (filter (stands_in false) rows)), length-append (map_head 3) (pairs_bytes shard_keys values))
  by true = omega (arith, value-long shard_keys values 1 (omega arith) (omega arith), length-append (map_head (length (filter (stands_in true) rows))) (flat_map file_bytes (filter (stands_in true) rows)), length-append (map_head 3) (pairs_bytes shard_keys values))

-- a row that passes a test is no longer than all rows that do
passed-long : (p : Row → Bool) (rows : List Row) (k : ℕ) (d : Row) → k < length rows → p (get_or rows k d) ≡ true → length (file_bytes (get_or rows k d)) ≤ length (flat_map file_bytes (filter p rows))
passed-long p [] k d lt passes = absurd (omega arith)
passed-long p (r ∷ rows) zero d lt passes = subst (λ (b : Bool). length (file_bytes r) ≤ length (flat_map file_bytes (cond b (r ∷ filter p rows) (filter p rows)))) (sym passes) (omega (arith, length-append (file_bytes r) (flat_map file_bytes (filter p rows))))
passed-long p (r ∷ rows) (suc k) d lt passes = by (p r) (passed-long p rows k d (omega arith) passes) where
  by : (b : Bool) → length (file_bytes (get_or rows k d)) ≤ length (flat_map file_bytes (filter p rows))
      → length (file_bytes (get_or rows k d)) ≤ length (flat_map file_bytes (cond b (r ∷ filter p rows) (filter p rows)))
  by true h = omega (arith, h, length-append (file_bytes r) (flat_map file_bytes (filter p rows)))
  by false h = h

stands-itself : (r : Row) → stands_in r.conda r ≡ true
stands-itself r = by r.conda refl where
  by : (b : Bool) → r.conda ≡ b → stands_in b r ≡ true
  by true h = h
  by false h = ap not h

-- a row is no longer than its shard
row-long : (rows : List Row) (k : ℕ) (d : Row) → k < length rows → length (file_bytes (get_or rows k d)) ≤ length (shard_bytes rows)
row-long rows k d lt =
    let r = get_or rows k d in
    omega (arith, passed-long (stands_in r.conda) rows k d lt (stands-itself r), part-long r.conda rows)

-- the rows of a shard within the limit can be written
rows-writable : (rows : List Row) → IsStrictlySortedBy row_cmp rows → length (shard_bytes rows) ≤ most_served_bytes → AreWritable rows
rows-writable rows up low = record {
  ascending = up;
  few = omega (
    arith,
    length-filter_both (stands_in true) (stands_in false) (λ r. refl) rows,
    pieces-many file_bytes (filter (stands_in true) rows) row-some,
    pieces-many file_bytes (filter (stands_in false) rows) row-some,
    part-long true rows,
    part-long false rows,
  );
  each = λ k d lt. row-writable (get_or rows k d) (omega (arith, row-long rows k d lt));
}

-- ---- groups

-- the row at the front of those that pass a test passes it
front-passes : (p : Row → Bool) (rows : List Row) (d : Row) → 0 < length (filter p rows) → p (get_or (filter p rows) 0 d) ≡ true
front-passes p [] d some = absurd (omega arith)
front-passes p (r ∷ rows) d some = by (p r) refl (front-passes p rows d) some
  where
    by : (b : Bool) → p r ≡ b → (0 < length (filter p rows) → p (get_or (filter p rows) 0 d) ≡ true)
        → 0 < length (cond b (r ∷ filter p rows) (filter p rows)) → p (get_or (cond b (r ∷ filter p rows) (filter p rows)) 0 d) ≡ true
    by true h later some = h
    by false h later some = later some

-- the name of a group whose shard is within the limit is short
name-short : (g : Group) (rows : List Row) → g.rows ≡ filter (is_named g.name) rows → g.rows ≢ [] → AreWritable g.rows → length g.name < 2 ^ 32
name-short g rows are some can = by g.rows refl where
  by : (l : List Row) → g.rows ≡ l → length g.name < 2 ^ 32
  by [] e = absurd (some e)
  by (r ∷ rs) e =
      let front : filter (is_named g.name) rows ≡ r ∷ rs = sym are ∙ e in
      let passes : is_named g.name r ≡ true = subst (λ (l : List Row). is_named g.name (get_or l 0 r) ≡ true) front
      (front-passes (is_named g.name) rows r (subst (λ (l : List Row). 0 < length l) (sym front) (omega arith))) in
      let named : g.name ≡ lower_case r.fields.name = (bytes_eq-Decides g.name (name_in r)).0 passes in
      let writable : IsWritableRow r = subst (λ (l : List Row). IsWritableRow (get_or l 0 r)) e (can.each 0 r (subst (λ (l : List Row). 0 < length l) (sym e) (omega arith))) in
      omega (arith, ap (length {A = ℕ}) named, length-map r.fields.name to_ascii_lowercase, writable.record_writable.name_short)

-- a group without a fit shard has more bytes than a shard may have
pub not-fit-long : (bytes : List ℕ) (stood : List Row) (groups : List Group) → SaysGroups bytes stood groups
    → All (λ (g : Group). (IsFit g → ⊥) → most_served_bytes < length (shard_bytes g.rows)) groups
not-fit-long bytes stood groups said k d lt unfit = elim (cases_lt most_served_bytes (length (shard_bytes g.rows))) [
  | inl long ↦ long
  | inr low ↦ absurd (unfit (fit low))
]
  where
    g : Group
    g = get_or groups k d

    are : g.rows ≡ filter (is_named g.name) said.rows
    are = sym (All-from_recursion (λ (h : Group). rows_under h.name groups ≡ h.rows) groups (each-under groups said.grouped.ascending) k d lt) ∙ said.grouped.each g.name

    fit : length (shard_bytes g.rows) ≤ most_served_bytes → IsFit g
    fit low =
        let can = rows-writable g.rows (said-ascend bytes stood groups said k d lt) low in
        record {
          named = name-short g said.rows are (said.grouped.some k d lt) can;
          writable = can;
          short = low;
        }
