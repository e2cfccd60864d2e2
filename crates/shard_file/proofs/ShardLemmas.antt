-- A shard is read right: its rows are those that the bytes spell, and a fault is the first one.
use Rattle.std.proofs.Common.{◌≡◌, refl, sym, ◌∙◌, ap, subst, ℕ, zero, suc, ◌<◌, ◌≤◌, Bool, true, false, cond, ◌||◌, List, [], ◌∷◌, ◌++◌, map, arith, codes}
use Rattle.std.specs.Prelude.{Result, Ok, Err, Option, Some, None}
use Rattle.std.specs.List.{list_any}
use Rattle.std.specs.List.Sorted.{IsSortedBy, IsStableBy}
use Rattle.gateway_words.specs.Places.{Position, start_of}
use Rattle.mp_codec.specs.declared.fault.FormatFault.{FormatFault}
use Rattle.mp_codec.specs.Value.{Value, Pairs, pairs_of, str_of}
use Rattle.mp_codec.specs.Fault.{Faults, no_fault, MapRules, MapFault, IsFirstFault}
use Rattle.mp_codec.specs.Keys.{has_bytes, value_at, MissingKey, missing}
use Rattle.mp_codec.specs.Maps.{Read, skipped, place_of, is_distinct, known_map_from}
use Rattle.mp_codec.proofs.JudgingLemmas.{StandBehind, JudgesOne}
use Rattle.mp_codec.proofs.LeafLemmas.{skipped_judged}
use Rattle.mp_codec.proofs.MapLemmas.{mapped, same_faults}
use Rattle.mp_codec.proofs.KeyLemmas.{KnowsFrom, datum_at, table_rules, table_judged}
use Rattle.mp_codec.proofs.MappedLemmas.{turned, known_map_turned, data_of, knows_is}
use Rattle.mp_codec.proofs.RuleLemmas.{RulesWithin, map_within}
use Rattle.mp_codec.proofs.BytesLemmas.{ReadsBytes, JudgesBytes, bytes_judged}
use Rattle.mp_codec.proofs.UniqueLemmas.{one_value}
use Rattle.shard_file.specs.Rows.{Row, packages_key, conda_key, shard_keys, row_of, rows_in, rows_of, file_lt, FilesFault, shard_rules, ShardFault, ShardOf}
use Rattle.shard_file.specs.Reading.{files_from, member_from, rows_at, shard_end_from, shard_from, rows_from, shard_of}
use Rattle.shard_file.proofs.FileLemmas.{AreRows, files_judged, files_behind}
use Rattle.gateway_words.specs.Sorting.{sorted_by}
use Rattle.gateway_words.specs.Reading.{◌>>=◌}
use Rattle.mp_codec.proofs.SortingLemmas.{one_sort, sorted_is_sorted, sorted_is_stable}
use Rattle.mp_codec.proofs.FirstLemmas.{one_first}
use Rattle.shard_file.proofs.SortLemmas.{file_order}

-- ---- the values of the known keys

-- what the value of the key at this place says
abbrev pub member : ℕ → Value → List Row
member zero v = map (row_of false) (pairs_of v)
member (suc zero) v = map (row_of true) (pairs_of v)
member (suc (suc i)) v = []

-- what is asked of the value of the key at this place
abbrev pub asked : ℕ → Faults
asked i here f = (i < 2) × FilesFault here f

files_each : (i : ℕ) (conda : Bool) (here : Position) → i < 2 → JudgesOne (asked i) (λ rows v. map (row_of conda) (pairs_of v) ≡ rows) here (files_from conda here)
files_each i conda here lt =
    turned_around (files_from conda here)
    (same_faults FilesFault (asked i) (AreRows conda) here (files_from conda here) (λ f p. (lt, p)) (λ f p. p.1) (files_judged conda here))
  where
    turned_around : (r : Read (List Row)) → JudgesOne (asked i) (AreRows conda) here r → JudgesOne (asked i) (λ rows v. map (row_of conda) (pairs_of v) ≡ rows) here r
    turned_around (Ok x) j = record { value = j.value; lies = j.lies; means = sym j.means; none = j.none }
    turned_around (Err f) j = j

each : (i : ℕ) (here : Position) → i < 3 → JudgesOne (asked i) (λ rows v. member i v ≡ rows) here (member_from i here)
each zero here lt = files_each 0 false here (omega arith)
each (suc zero) here lt = files_each 1 true here (omega arith)
each (suc (suc zero)) here lt =
    same_faults no_fault (asked 2) (λ rows v. member 2 v ≡ rows) here (skipped [] here) (λ f p. absurd p) (λ f p. let lt : 2 < 2 = p.0 in absurd (omega arith))
    (skipped_judged [] (λ rows v. member 2 v ≡ rows) here (λ v there l. refl))
each (suc (suc (suc i))) here lt = absurd (omega arith)

not_asked : (i : ℕ) (here : Position) (f : FormatFault) → 3 ≤ i → asked i here f → ⊥
not_asked i here f le p = let lt : i < 2 = p.0 in omega arith

asked_behind : (i : ℕ) → StandBehind (asked i)
asked_behind i here f p = files_behind here f p.1

pub differ : is_distinct shard_keys ≡ true
differ = refl

-- ---- what is asked, by the place of a key and by its name

files_place : (o : Option (List ℕ)) → place_of shard_keys o < 2 → list_any (λ name. has_bytes name o) (packages_key ∷ conda_key ∷ []) ≡ true
files_place o lt = go (has_bytes packages_key o) (has_bytes conda_key o) (place_of (codes "removed" ∷ []) o) lt
  where
    go : (a b : Bool) (rest : ℕ) → cond a 0 (suc (cond b 0 (suc rest))) < 2 → (a || (b || false)) ≡ true
    go true b rest lt = refl
    go false true rest lt = refl
    go false false rest lt = absurd (omega arith)

place_files : (o : Option (List ℕ)) → list_any (λ name. has_bytes name o) (packages_key ∷ conda_key ∷ []) ≡ true → place_of shard_keys o < 2
place_files o e = go (has_bytes packages_key o) (has_bytes conda_key o) (place_of (codes "removed" ∷ []) o) e
  where
    go : (a b : Bool) (rest : ℕ) → (a || (b || false)) ≡ true → cond a 0 (suc (cond b 0 (suc rest))) < 2
    go true b rest e = omega arith
    go false true rest e = omega arith
    go false false rest e = absurd (cc)

abbrev Table : MapRules
Table = table_rules shard_keys differ 0 asked member member_from each not_asked asked_behind

-- no key is required, so none is missing
none_missing : {front : Pairs} {here : Position} {f : FormatFault} → MissingKey [] front here f → ⊥
none_missing (missing e) = absurd (cc)

table_within : RulesWithin Table shard_rules
table_within = record { key = λ front here f p. p; value = λ key here f p. (files_place (str_of key) p.0, p.1); end = λ front here f p. none_missing p }

within_table : RulesWithin shard_rules Table
within_table = record { key = λ front here f p. p; value = λ key here f p. (place_files (str_of key) p.0, p.1); end = λ front here f p. absurd p }

-- ---- the shard

-- the rows are those of the value, in the order in which they stand
abbrev pub AreAllRows : List Row → Value → Type 0
AreAllRows rows v = rows ≡ rows_of v

-- all rows of what was read
abbrev pub all_rows : List (Option (List Row)) → List Row
all_rows s = rows_at s 0 ++ rows_at s 1

rows_said : (ps : Pairs) → all_rows (data_of member 0 shard_keys ps) ≡ rows_in false (value_at packages_key ps) ++ rows_in true (value_at conda_key ps)
rows_said ps = go (value_at packages_key ps) (value_at conda_key ps) (value_at (codes "removed") ps)
  where
    go : (a b r : Option Value) → all_rows (datum_at (member 0) a ∷ datum_at (member 1) b ∷ datum_at (member 2) r ∷ []) ≡ rows_in false a ++ rows_in true b
    go (Some v) (Some w) r = refl
    go (Some v) None r = refl
    go None (Some w) r = refl
    go None None r = refl

pub shard_is : (here : Position) → shard_from here ≡ turned all_rows (known_map_from shard_keys 0 member_from here)
unfolding shard_from shard_end_from
shard_is here = known_map_turned shard_keys 0 member_from all_rows here

shard_judged : (here : Position) → JudgesOne (MapFault shard_rules) AreAllRows here (shard_from here)
shard_judged here =
    subst (λ (r : Read (List Row)). JudgesOne (MapFault shard_rules) AreAllRows here r) (sym (shard_is here))
    (mapped (MapFault shard_rules) (λ s v. KnowsFrom member 0 shard_keys s (pairs_of v)) AreAllRows all_rows here (known_map_from shard_keys 0 member_from here)
    (λ s v k. ap all_rows (knows_is member 0 shard_keys s (pairs_of v) k) ∙ rows_said (pairs_of v))
    (same_faults (MapFault Table) (MapFault shard_rules) (λ s v. KnowsFrom member 0 shard_keys s (pairs_of v)) here (known_map_from shard_keys 0 member_from here)
    (map_within Table shard_rules table_within here) (map_within shard_rules Table within_table here)
    (table_judged shard_keys differ 0 asked member member_from each not_asked asked_behind here)))

bytes_read : (bytes : List ℕ) → JudgesBytes (MapFault shard_rules) AreAllRows bytes (rows_from bytes)
unfolding rows_from
bytes_read bytes = bytes_judged (MapFault shard_rules) AreAllRows bytes shard_from (shard_judged (start_of bytes))

-- ---- what a call that reads a shard gave

-- rows that were read and sorted are those of the shard
pub shard_found : (bytes : List ℕ) (stood rows : List Row) → rows_from bytes ≡ Ok stood → IsSortedBy file_lt rows → IsStableBy file_lt stood rows → ShardOf bytes rows
shard_found bytes stood rows e up stable =
    let j : ReadsBytes (MapFault shard_rules) AreAllRows bytes stood = subst (λ (r : Result (List Row) FormatFault). JudgesBytes (MapFault shard_rules) AreAllRows bytes r) e (bytes_read bytes) in
    record { value = j.value; spelled = j.spelled; ascending = up; in_order = subst (λ (stood : List Row). IsStableBy file_lt stood rows) j.means stable; no_fault = j.none }

pub shard_first : (bytes : List ℕ) (f : FormatFault) → rows_from bytes ≡ Err f → IsFirstFault (ShardFault bytes) f
shard_first bytes f e = subst (λ (r : Result (List Row) FormatFault). JudgesBytes (MapFault shard_rules) AreAllRows bytes r) e (bytes_read bytes)

-- bytes are a shard in one way
pub one_shard : (bytes : List ℕ) (rows others : List Row) → ShardOf bytes rows → ShardOf bytes others → rows ≡ others
one_shard bytes rows others s t =
    let same : s.value ≡ t.value = one_value s.value t.value bytes s.spelled t.spelled in
    let in_order : IsStableBy file_lt (rows_of t.value) rows = subst (λ (v : Value). IsStableBy file_lt (rows_of v) rows) same s.in_order in
    one_sort file_lt file_order rows others s.ascending t.ascending (λ x. t.in_order x ∙ sym (in_order x))

-- what is read of a shard are its rows
pub shard_says : (bytes : List ℕ) (rows : List Row) → shard_of bytes ≡ Ok rows → ShardOf bytes rows
unfolding shard_of
shard_says bytes rows e = go (rows_from bytes) refl e
  where
    go : (r : Result (List Row) FormatFault) → rows_from bytes ≡ r → (r >>= λ stood. Ok (sorted_by file_lt stood)) ≡ Ok rows → ShardOf bytes rows
    go (Ok stood) read is =
        let same : sorted_by file_lt stood ≡ rows = cc in
        subst (λ (xs : List Row). ShardOf bytes xs) same
        (shard_found bytes stood (sorted_by file_lt stood) read (sorted_is_sorted file_lt file_order stood) (sorted_is_stable file_lt file_order stood))
    go (Err f) read is = absurd cc

-- what is read of bytes that are no shard is their first fault
pub shard_faults : (bytes : List ℕ) (f : FormatFault) → shard_of bytes ≡ Err f → IsFirstFault (ShardFault bytes) f
unfolding shard_of
shard_faults bytes f e = go (rows_from bytes) refl e
  where
    go : (r : Result (List Row) FormatFault) → rows_from bytes ≡ r → (r >>= λ stood. Ok (sorted_by file_lt stood)) ≡ Err f → IsFirstFault (ShardFault bytes) f
    go (Ok stood) read is = absurd cc
    go (Err g) read is = let same : g ≡ f = cc in subst (IsFirstFault (ShardFault bytes)) same (shard_first bytes g read)

-- the rows of a shard are read of it
pub says_shard : (bytes : List ℕ) (rows : List Row) → ShardOf bytes rows → shard_of bytes ≡ Ok rows
says_shard bytes rows s = go (shard_of bytes) refl
  where
    go : (r : Result (List Row) FormatFault) → shard_of bytes ≡ r → shard_of bytes ≡ Ok rows
    go (Ok others) read = read ∙ ap Ok (one_shard bytes others rows (shard_says bytes others read) s)
    go (Err f) read = absurd (s.no_fault f (shard_faults bytes f read).stands)

-- the first fault is read of bytes in which it stands
pub faults_shard : (bytes : List ℕ) (f : FormatFault) → IsFirstFault (ShardFault bytes) f → shard_of bytes ≡ Err f
faults_shard bytes f first = go (shard_of bytes) refl
  where
    go : (r : Result (List Row) FormatFault) → shard_of bytes ≡ r → shard_of bytes ≡ Err f
    go (Ok rows) read = absurd ((shard_says bytes rows read).no_fault f first.stands)
    go (Err g) read = read ∙ ap Err (one_first (ShardFault bytes) g f (shard_faults bytes g read) first)

-- bytes with which nothing is wrong are a shard
pub clean_shard : (bytes : List ℕ) → ((f : FormatFault) → ShardFault bytes f → ⊥) → (rows : List Row) × ShardOf bytes rows
clean_shard bytes clean = go (shard_of bytes) refl
  where
    go : (r : Result (List Row) FormatFault) → shard_of bytes ≡ r → (rows : List Row) × ShardOf bytes rows
    go (Ok rows) read = (rows, shard_says bytes rows read)
    go (Err f) read = absurd (clean f (shard_faults bytes f read).stands)
