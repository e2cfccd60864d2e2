-- A shard that is written is read again as its rows.
use Rattle.std.proofs.Common.{◌≡◌, refl, sym, ◌∙◌, ap, subst, ℕ, zero, suc, ◌+◌, ◌*◌, ◌<◌, ◌≤◌, ◌^◌, Bool, true, false, not, cond, ◌||◌, ◌&&◌, List, [], ◌∷◌, ◌++◌, length, filter, get_or, arith, append_assoc, append-nil}
use Rattle.std.specs.Prelude.{Ok, Err, Option, Some, IfSome}
use Rattle.std.specs.declared.cmp.Ordering.{Ordering}
use Rattle.std.specs.declared.cmp.Ordering.TheVariants.{Less, Equal, Greater}
use Rattle.std.specs.Ordering.{nat_cmp, bool_cmp, is_lt, ordering_then, ordering_reverse}
use Rattle.std.specs.Cmp.Lexicographic.{slice_cmp}
use Rattle.std.specs.List.{All, AllByRecursion, flat_map}
use Rattle.std.specs.List.Sorted.{IsSortedBy, IsStableBy, IsStrictlySortedBy, ties}
use Rattle.std.specs.Str.{bytes_eq}
use Rattle.std.proofs.lemmas.Cmp.{nat_list_cmp_total}
use Rattle.std.proofs.lemmas.List.Elements.{filter-append}
use Rattle.std.proofs.lemmas.List.Kept.{IsStrictlySortedBy-filter}
use Rattle.std.proofs.lemmas.Slice.Eq.{bytes_eq-Decides}
use Rattle.gateway_words.specs.Places.{Position}
use Rattle.gateway_words.specs.Reading.{◌>>=◌}
use Rattle.mp_codec.specs.declared.fault.FaultKind.TheVariants as kind
use Rattle.mp_codec.specs.Fault.{fault_here}
use Rattle.mp_codec.specs.Maps.{Read, text_from, entries_from, known_map_from}
use Rattle.mp_codec.specs.Writing.{str_bytes, array_head, known_map_bytes}
use Rattle.mp_codec.proofs.BindLemmas.{bind_ok}
use Rattle.mp_codec.proofs.UniqueLemmas.{one_value}
use Rattle.mp_codec.specs.Value.{Value}
use Rattle.mp_codec.proofs.WrittenLemmas.{Halves, halves, nothing_between, ReadAs, read_all, text_read_back, map_read_back, skipped_back, no_elements, no_elements_spelled, known_map_written}
use Rattle.mp_codec.specs.Spelling.{Spells}
use Rattle.mp_codec.specs.Writing.{IsShortest}
use Rattle.mp_codec.proofs.ShortestLemmas.{IsTight, AreTight, tight_str, tight_array, tight_map, tight_none, tight_one_more, tight_known_map, pointwise, names_short, shortest}
use Rattle.conda_record.specs.Record.{Fields}
use Rattle.conda_record.specs.Reading.{record_from}
use Rattle.conda_record.specs.Writing.{record_bytes, IsReadAgain}
use Rattle.conda_record.proofs.RecordLemmas.{record_at_read}
use Rattle.conda_record.proofs.WrittenLemmas.{read_again as record_again, tight_record}
use Rattle.shard_file.specs.Rows.{Row, shard_keys, rows_of, file_lt, ShardOf}
use Rattle.mp_codec.specs.Names.{new_name_from}
use Rattle.shard_file.specs.Reading.{has_file, file_key_from, file_value_from, files_after, files_from, member_from, shard_from, rows_from}
use Rattle.shard_file.specs.Writing.{stands_in, rows_under, file_bytes, files_bytes, shard_bytes, row_cmp, IsWritableRow, AreWritable, IsReadableRow, IsRow}
use Rattle.mp_codec.proofs.SortingLemmas.{one_sort}
use Rattle.shard_file.proofs.SortLemmas.{file_order}
use Rattle.shard_file.proofs.ShardLemmas.{differ, all_rows, shard_is, shard_found}

-- ---- rows that come before others

-- a file name is not below itself
not_below : (a : List ℕ) → slice_cmp nat_cmp a a ≡ Less → ⊥
not_below a e = absurd (let r : Less ≡ Greater = sym e ∙ nat_list_cmp_total.antisymm a a ∙ ap ordering_reverse e in cc)

-- file names one below the other are not equal
below_differ : (a b : List ℕ) → slice_cmp nat_cmp a b ≡ Less → bytes_eq a b ≡ false
below_differ a b less = go (bytes_eq a b) refl
  where
    go : (t : Bool) → bytes_eq a b ≡ t → bytes_eq a b ≡ false
    go false is = is
    go true is =
        let same : a ≡ b = (bytes_eq-Decides a b).0 is in
        absurd (not_below b (subst (λ (x : List ℕ). slice_cmp nat_cmp x b ≡ Less) same less))

-- of two rows of one map, one before the other, the names differ
names_differ : (r s : Row) → row_cmp r s ≡ Less → r.conda ≡ s.conda → bytes_eq r.file s.file ≡ false
names_differ r s before same = below_differ r.file s.file (go (slice_cmp nat_cmp r.file s.file) refl (subst (λ (b : Bool). ordering_then (slice_cmp nat_cmp r.file s.file) (bool_cmp r.conda b) ≡ Less) (sym same) before))
  where
    self : (b : Bool) → bool_cmp b b ≡ Equal
    self true = refl
    self false = refl

    go : (o : Ordering) → slice_cmp nat_cmp r.file s.file ≡ o → ordering_then o (bool_cmp r.conda r.conda) ≡ Less → slice_cmp nat_cmp r.file s.file ≡ Less
    go Less is e = is
    go Equal is e = absurd (let wrong : Equal ≡ Less = sym (self r.conda) ∙ e in cc)
    go Greater is e = absurd (cc)

-- ---- the files of one map

-- each row has a name that none of those in front has
abbrev AreNew : List Row → List Row → Type 0
AreNew done rest = AllByRecursion (λ s. has_file s.file done ≡ false) rest

has_more : (name : List ℕ) (done : List Row) (r : Row) → has_file name done ≡ false → bytes_eq r.file name ≡ false → has_file name (done ++ r ∷ []) ≡ false
has_more name [] r e d = ap (λ (b : Bool). b || false) d
has_more name (q ∷ done) r e d = go (bytes_eq q.file name) (has_file name done) e (λ less. has_more name done r less d)
  where
    go : (a b : Bool) → (a || b) ≡ false → (b ≡ false → has_file name (done ++ r ∷ []) ≡ false) → (a || has_file name (done ++ r ∷ [])) ≡ false
    go true b e more = absurd (cc)
    go false b e more = more e

new_more : (done rest : List Row) (r : Row) (conda : Bool) → r.conda ≡ conda → AllByRecursion (λ s. s.conda ≡ conda) rest → AreNew done rest → AllByRecursion (λ s. row_cmp r s ≡ Less) rest → AreNew (done ++ r ∷ []) rest
new_more done [] r conda is are new before = new
new_more done (s ∷ rest) r conda is are new before =
    (has_more s.file done r new.0 (names_differ r s before.0 (is ∙ sym are.0)), new_more done rest r conda is are.1 new.1 before.1)

all_first : {X : Type 0} (P : X → Type 0) (x : X) (xs : List X) → All P (x ∷ xs) → P x
all_first P x xs all = all 0 x (omega arith)

all_others : {X : Type 0} (P : X → Type 0) (x : X) (xs : List X) → All P (x ∷ xs) → All P xs
all_others P x xs all k d lt = all (suc k) d (omega arith)

record_back : (f : Fields) → IsReadAgain f → ReadAs record_from (record_bytes f) f
record_back f again here there at = record_at_read here there f (again here there at)

file_back : (done : List Row) (r : Row) (conda : Bool) → r.conda ≡ conda → IsReadableRow r → ReadAs (file_value_from conda done r.file) (record_bytes r.fields) (done ++ r ∷ [])
unfolding file_value_from
file_back done r conda is read here there at =
    bind_ok (record_from here) (λ x. Ok (done ++ record { file = r.file; conda = conda; fields = x.0 } ∷ [], x.1)) (r.fields, there) (record_back r.fields read.record_read here there at)
    ∙ ap (λ (b : Bool). Ok (done ++ record { file = r.file; conda = b; fields = r.fields } ∷ [], there)) (sym is)

name_back : (done : List Row) (r : Row) → IsWritableRow r → IsReadableRow r → has_file r.file done ≡ false → ReadAs (file_key_from done) (str_bytes r.file) r.file
unfolding new_name_from
name_back done r w read new here there at =
    bind_ok (text_from here) (λ t. cond {A = Read (List ℕ)} (has_file t.0 done) (Err (fault_here kind.Repeated here)) (Ok (t.0, t.1))) (r.file, there) (text_read_back r.file w.file_short read.file_text here there at)
    ∙ ap (λ (b : Bool). cond {A = Read (List ℕ)} b (Err (fault_here kind.Repeated here)) (Ok (r.file, there))) new

entries_back : (done rest : List Row) (conda : Bool) → AllByRecursion (λ s. s.conda ≡ conda) rest → IsStrictlySortedBy row_cmp rest → AreNew done rest → All IsWritableRow rest → All IsReadableRow rest
    → ReadAs (files_after conda (length rest) done) (flat_map file_bytes rest) (done ++ rest)
unfolding entries_from IsStrictlySortedBy file_bytes
entries_back done [] conda are up new w read here there at = ap (λ (rows : List Row). Ok (rows, here)) (sym (append-nil done)) ∙ ap (λ (q : Position). Ok (done ++ [], q)) (nothing_between here there at)
entries_back done (r ∷ rest) conda are up new w read here there at =
    let pair : Halves (str_bytes r.file ++ record_bytes r.fields) (flat_map file_bytes rest) here there = halves (str_bytes r.file ++ record_bytes r.fields) (flat_map file_bytes rest) here there at in
    let key : Halves (str_bytes r.file) (record_bytes r.fields) here pair.mid = halves (str_bytes r.file) (record_bytes r.fields) here pair.mid pair.first in
    let readable : IsReadableRow r = all_first IsReadableRow r rest read in
    bind_ok (file_key_from done here) (λ k. file_value_from conda done k.0 k.1 >>= λ t. files_after conda (length rest) t.0 t.1) (r.file, key.mid)
    (name_back done r (all_first IsWritableRow r rest w) readable new.0 here key.mid key.first)
    ∙ bind_ok (file_value_from conda done r.file key.mid) (λ t. files_after conda (length rest) t.0 t.1) (done ++ r ∷ [], pair.mid) (file_back done r conda are.0 readable key.mid pair.mid key.second)
    ∙ entries_back (done ++ r ∷ []) rest conda are.1 up.1 (new_more done rest r conda are.0 are.1 new.1 up.0) (all_others IsWritableRow r rest w) (all_others IsReadableRow r rest read) pair.mid there pair.second
    ∙ ap (λ (rows : List Row). Ok (rows, there)) (append_assoc done (r ∷ []) rest)

-- ---- a map of files

files_back : (rows : List Row) (conda : Bool) → AllByRecursion (λ s. s.conda ≡ conda) rows → IsStrictlySortedBy row_cmp rows → length rows < 2 ^ 32 → All IsWritableRow rows → All IsReadableRow rows
    → ReadAs (files_from conda) (files_bytes rows) rows
unfolding files_from files_bytes
files_back rows conda are up few w read =
    map_read_back (λ n there. files_after conda n [] there) (length rows) (flat_map file_bytes rows) rows few (entries_back [] rows conda are up (nothing_met rows) w read)
  where
    nothing_met : (rows : List Row) → AreNew [] rows
    nothing_met [] = tt
    nothing_met (r ∷ rows) = (refl, nothing_met rows)

-- ---- the rows of each map

conda_is : (conda : Bool) (r : Row) → stands_in conda r ≡ true → r.conda ≡ conda
conda_is true r e = e
conda_is false r e = go r.conda e
  where
    go : (b : Bool) → not b ≡ true → b ≡ false
    go true e = absurd (cc)
    go false e = refl

under_is : (conda : Bool) (rows : List Row) → AllByRecursion (λ s. s.conda ≡ conda) (rows_under conda rows)
under_is conda [] = tt
under_is conda (r ∷ rows) = go (stands_in conda r) refl (under_is conda rows)
  where
    go : (b : Bool) → stands_in conda r ≡ b → AllByRecursion (λ s. s.conda ≡ conda) (rows_under conda rows) → AllByRecursion (λ s. s.conda ≡ conda) (cond b (r ∷ rows_under conda rows) (rows_under conda rows))
    go true e rest = (conda_is conda r e, rest)
    go false e rest = rest

under_few : (conda : Bool) (rows : List Row) → length (rows_under conda rows) ≤ length rows
under_few conda [] = omega arith
under_few conda (r ∷ rows) = go (stands_in conda r) (under_few conda rows)
  where
    go : (b : Bool) → length (rows_under conda rows) ≤ length rows → length (cond b (r ∷ rows_under conda rows) (rows_under conda rows)) ≤ suc (length rows)
    go true le = omega arith
    go false le = omega arith

-- what holds of each row holds of each row of one map
recursive : {X : Type 0} (P : X → Type 0) (xs : List X) → All P xs → AllByRecursion P xs
recursive P [] all = tt
recursive P (x ∷ xs) all = (all_first P x xs all, recursive P xs (all_others P x xs all))

filtered : {X : Type 0} (P : X → Type 0) (p : X → Bool) (xs : List X) → AllByRecursion P xs → AllByRecursion P (filter p xs)
filtered P p [] all = tt
filtered {X} P p (x ∷ xs) all = go (p x) (filtered P p xs all.1)
  where
    go : (b : Bool) → AllByRecursion P (filter p xs) → AllByRecursion P (cond b (x ∷ filter p xs) (filter p xs))
    go true rest = (all.0, rest)
    go false rest = rest

under_all : (P : Row → Type 0) (conda : Bool) (rows : List Row) → All P rows → All P (rows_under conda rows)
under_all P conda rows all = pointwise P (rows_under conda rows) (filtered P (stands_in conda) rows (recursive P rows all))

under_back : (conda : Bool) (rows : List Row) → AreWritable rows → All IsReadableRow rows → ReadAs (files_from conda) (files_bytes (rows_under conda rows)) (rows_under conda rows)
under_back conda rows w read =
    let few = under_few conda rows in
    let most : length rows < 2 ^ 32 = w.few in
    files_back (rows_under conda rows) conda (under_is conda rows) (IsStrictlySortedBy-filter row_cmp (stands_in conda) rows w.ascending) (omega (arith, few))
    (under_all IsWritableRow conda rows w.each) (under_all IsReadableRow conda rows read)

-- ---- the shard

-- what is written behind each key
abbrev values : List Row → List (Option (List ℕ))
values rows = Some (files_bytes (rows_under false rows)) ∷ Some (files_bytes (rows_under true rows)) ∷ Some (array_head 0) ∷ []

-- what is read behind each key
abbrev read_data : List Row → List (Option (List Row))
read_data rows = Some (rows_under false rows) ∷ Some (rows_under true rows) ∷ Some [] ∷ []

here_back : (rows : List Row) → AreWritable rows → All IsReadableRow rows → ReadAs shard_from (known_map_bytes shard_keys (values rows)) (rows_under false rows ++ rows_under true rows)
here_back rows w read here there at =
    shard_is here
    ∙ bind_ok (known_map_from shard_keys 0 member_from here) (λ x. Ok (all_rows x.0, x.1)) (read_data rows, there)
    (known_map_written shard_keys differ refl 0 member_from (values rows) (read_data rows) (omega arith) (under_back false rows w read, (under_back true rows w read, (skipped_back [] no_elements (array_head 0) no_elements_spelled, tt))) refl here there at)

-- the rows are read, those of packages first
shard_back : (rows : List Row) → AreWritable rows → All IsReadableRow rows → rows_from (shard_bytes rows) ≡ Ok (rows_under false rows ++ rows_under true rows)
unfolding rows_from shard_bytes
shard_back rows w read = read_all shard_from (known_map_bytes shard_keys (values rows)) (rows_under false rows ++ rows_under true rows) (here_back rows w read)

-- ---- their order

-- a row that comes before another does not come behind it by its file name
not_behind : (r s : Row) → row_cmp r s ≡ Less → file_lt s r ≡ false
not_behind r s before = ap is_lt (nat_list_cmp_total.antisymm s.file r.file) ∙ go (slice_cmp nat_cmp r.file s.file) before
  where
    go : (o : Ordering) → ordering_then o (bool_cmp r.conda s.conda) ≡ Less → is_lt (ordering_reverse o) ≡ false
    go Less e = refl
    go Equal e = refl
    go Greater e = absurd (cc)

sorted : (rows : List Row) → IsStrictlySortedBy row_cmp rows → IsSortedBy file_lt rows
unfolding IsStrictlySortedBy
sorted [] up k d low high = absurd (omega arith)
sorted (r ∷ rows) up zero d low high = first rows up.0 (omega arith)
  where
    first : (rows : List Row) → AllByRecursion (λ s. row_cmp r s ≡ Less) rows → 0 < length rows → file_lt (get_or rows 0 d) r ≡ false
    first [] before lt = absurd (omega arith)
    first (s ∷ rows) before lt = not_behind r s before.0
sorted (r ∷ rows) up (suc k) d low high =
    let next : suc (k + 1) ≡ suc k + 1 = omega arith in
    subst (λ (i : ℕ). file_lt (get_or (r ∷ rows) i d) (get_or rows k d) ≡ false) next (sorted rows up.1 k d (omega arith) (omega arith))

-- rows of one file name, the first before the second, are of packages and of packages.conda
tied_kinds : (r s : Row) → row_cmp r s ≡ Less → ties file_lt r s ≡ true → (r.conda ≡ false) × (s.conda ≡ true)
tied_kinds r s before tie = go (slice_cmp nat_cmp r.file s.file) r.conda s.conda before tie
  where
    go : (o : Ordering) (a b : Bool) → ordering_then o (bool_cmp a b) ≡ Less → (not (is_lt o) && not (file_lt s r)) ≡ true → (a ≡ false) × (b ≡ true)
    go Less a b e t = absurd (cc)
    go Equal false true e t = (refl, refl)
    go Equal true true e t = absurd (cc)
    go Equal false false e t = absurd (cc)
    go Equal true false e t = absurd (cc)
    go Greater a b e t = absurd (cc)

-- neither of two rows is behind the other, seen from a third one
tied_both : (x r s : Row) → ties file_lt x r ≡ true → ties file_lt x s ≡ true → ties file_lt r s ≡ true
tied_both x r s a b =
    let xr = apart (file_lt x r) (file_lt r x) a in
    let xs = apart (file_lt x s) (file_lt s x) b in
    let rs : file_lt r s ≡ false = file_order.chain r x s xr.1 xs.0 in
    let sr : file_lt s r ≡ false = file_order.chain s x r xs.1 xr.0 in
    ap (λ (t : Bool). not t && not (file_lt s r)) rs ∙ ap (λ (t : Bool). true && not t) sr
  where
    apart : (a b : Bool) → (not a && not b) ≡ true → (a ≡ false) × (b ≡ false)
    apart true b e = absurd (cc)
    apart false true e = absurd (cc)
    apart false false e = (refl, refl)

-- behind a row of packages.conda no row of packages has its file name
none_tied : (x r : Row) (rows : List Row) → r.conda ≡ true → ties file_lt x r ≡ true → AllByRecursion (λ s. row_cmp r s ≡ Less) rows → filter (ties file_lt x) (rows_under false rows) ≡ []
none_tied x r [] conda tie before = refl
none_tied x r (s ∷ rows) conda tie before = go s.conda refl (none_tied x r rows conda tie before.1)
  where
    go : (b : Bool) → s.conda ≡ b → filter (ties file_lt x) (rows_under false rows) ≡ [] → filter (ties file_lt x) (cond (not b) (s ∷ rows_under false rows) (rows_under false rows)) ≡ []
    go true is rest = rest
    go false is rest = test (ties file_lt x s) refl
      where
        test : (t : Bool) → ties file_lt x s ≡ t → cond t (s ∷ filter (ties file_lt x) (rows_under false rows)) (filter (ties file_lt x) (rows_under false rows)) ≡ []
        test false e = rest
        test true e = absurd (let kinds = tied_kinds r s before.0 (tied_both x r s tie e) in let wrong : true ≡ false = sym conda ∙ kinds.0 in cc)

stable : (rows : List Row) → IsStrictlySortedBy row_cmp rows → IsStableBy file_lt (rows_under false rows ++ rows_under true rows) rows
unfolding IsStrictlySortedBy
stable rows up x = two rows up ∙ sym (filter-append (ties file_lt x) (rows_under false rows) (rows_under true rows))
  where
    two : (rows : List Row) → IsStrictlySortedBy row_cmp rows → filter (ties file_lt x) rows ≡ filter (ties file_lt x) (rows_under false rows) ++ filter (ties file_lt x) (rows_under true rows)
    two [] up = refl
    two (r ∷ rows) up = go r.conda (ties file_lt x r) refl refl (two rows up.1)
      where
        go : (b t : Bool) → r.conda ≡ b → ties file_lt x r ≡ t
            → filter (ties file_lt x) rows ≡ filter (ties file_lt x) (rows_under false rows) ++ filter (ties file_lt x) (rows_under true rows)
            → cond t (r ∷ filter (ties file_lt x) rows) (filter (ties file_lt x) rows)
            ≡ filter (ties file_lt x) (cond (not b) (r ∷ rows_under false rows) (rows_under false rows)) ++ filter (ties file_lt x) (cond b (r ∷ rows_under true rows) (rows_under true rows))
        go false true is tie rest = ap (λ (l : List Row). r ∷ l) rest ∙ sym (ap (λ (t : Bool). cond t (r ∷ filter (ties file_lt x) (rows_under false rows)) (filter (ties file_lt x) (rows_under false rows)) ++ filter (ties file_lt x) (rows_under true rows)) tie)
        go false false is tie rest = rest ∙ sym (ap (λ (t : Bool). cond t (r ∷ filter (ties file_lt x) (rows_under false rows)) (filter (ties file_lt x) (rows_under false rows)) ++ filter (ties file_lt x) (rows_under true rows)) tie)
        go true true is tie rest =
            let none : filter (ties file_lt x) (rows_under false rows) ≡ [] = none_tied x r rows is tie up.0 in
            ap (λ (l : List Row). r ∷ l) (rest ∙ ap (λ (l : List Row). l ++ filter (ties file_lt x) (rows_under true rows)) none)
            ∙ sym (ap (λ (l : List Row). l ++ cond (ties file_lt x r) (r ∷ filter (ties file_lt x) (rows_under true rows)) (filter (ties file_lt x) (rows_under true rows))) none
            ∙ ap (λ (t : Bool). cond t (r ∷ filter (ties file_lt x) (rows_under true rows)) (filter (ties file_lt x) (rows_under true rows))) tie)
        go true false is tie rest = rest ∙ sym (ap (λ (t : Bool). filter (ties file_lt x) (rows_under false rows) ++ cond t (r ∷ filter (ties file_lt x) (rows_under true rows)) (filter (ties file_lt x) (rows_under true rows))) tie)

-- ---- the shard that is written

pub written_shard : (rows : List Row) → AreWritable rows → All IsReadableRow rows → ShardOf (shard_bytes rows) rows
written_shard rows w read = shard_found (shard_bytes rows) (rows_under false rows ++ rows_under true rows) rows (shard_back rows w read) (sorted rows w.ascending) (stable rows w.ascending)

-- a shard of rows that can be written is read as these rows
pub read_again : (rows : List Row) → AreWritable rows → All IsRow rows → ShardOf (shard_bytes rows) rows
read_again rows w are = written_shard rows w (λ k d lt. record {
  file_text = (are k d lt).file_text;
  record_read = record_again (get_or rows k d).fields (w.each k d lt).record_writable (are k d lt).fields;
})

-- rows with equal bytes are equal
pub same_rows : (rows others : List Row) → AreWritable rows → All IsRow rows → AreWritable others → All IsRow others → shard_bytes rows ≡ shard_bytes others → rows ≡ others
same_rows rows others w are v too e =
    let one : ShardOf (shard_bytes rows) rows = read_again rows w are in
    let two : ShardOf (shard_bytes rows) others = subst (λ (bytes : List ℕ). ShardOf bytes others) (sym e) (read_again others v too) in
    let value : one.value ≡ two.value = one_value one.value two.value (shard_bytes rows) one.spelled two.spelled in
    let in_order : IsStableBy file_lt (rows_of two.value) rows = subst (λ (u : Value). IsStableBy file_lt (rows_of u) rows) value one.in_order in
    one_sort file_lt file_order rows others one.ascending two.ascending (λ x. two.in_order x ∙ sym (in_order x))

-- ---- no spelling of the value that a shard is has fewer bytes

tight_rows : (rows : List Row) → AllByRecursion (λ (r : Row). IsTight (str_bytes r.file) × IsTight (record_bytes r.fields)) rows → AreTight (length rows * 2) (flat_map file_bytes rows)
unfolding file_bytes
tight_rows [] each = tight_none
tight_rows (r ∷ rows) each =
    let two : suc (suc (length rows * 2)) ≡ suc (length rows) * 2 = omega arith in
    subst (λ (n : ℕ). AreTight n ((str_bytes r.file ++ record_bytes r.fields) ++ flat_map file_bytes rows)) two
    (subst (λ (b : List ℕ). AreTight (suc (suc (length rows * 2))) b) (sym (append_assoc (str_bytes r.file) (record_bytes r.fields) (flat_map file_bytes rows)))
    (tight_one_more (suc (length rows * 2)) (str_bytes r.file) (record_bytes r.fields ++ flat_map file_bytes rows) each.0.0
    (tight_one_more (length rows * 2) (record_bytes r.fields) (flat_map file_bytes rows) each.0.1 (tight_rows rows each.1))))

tight_under : (conda : Bool) (rows : List Row) → AreWritable rows → All IsRow rows → IsTight (files_bytes (rows_under conda rows))
unfolding files_bytes
tight_under conda rows w are =
    let few = under_few conda rows in
    let most : length rows < 2 ^ 32 = w.few in
    tight_map (length (rows_under conda rows)) (flat_map file_bytes (rows_under conda rows)) (omega (arith, few))
    (tight_rows (rows_under conda rows) (recursive (λ (r : Row). IsTight (str_bytes r.file) × IsTight (record_bytes r.fields)) (rows_under conda rows)
    (under_all (λ (r : Row). IsTight (str_bytes r.file) × IsTight (record_bytes r.fields)) conda rows (λ k d lt.
    (tight_str (get_or rows k d).file (w.each k d lt).file_short, tight_record (get_or rows k d).fields (w.each k d lt).record_writable (are k d lt).fields)))))

pub shortest_shard : (rows : List Row) → AreWritable rows → All IsRow rows → (v : Value) → Spells v (shard_bytes rows) → IsShortest v (shard_bytes rows)
unfolding shard_bytes
shortest_shard rows w are =
    shortest (known_map_bytes shard_keys (values rows))
    (tight_known_map shard_keys (values rows) refl (omega arith) (names_short shard_keys refl)
    (pointwise (λ (v : Option (List ℕ)). IfSome v IsTight) (values rows) (tight_under false rows w are, (tight_under true rows w are, (empty, tt)))))
  where
    empty : IsTight (array_head 0)
    empty = subst IsTight (append-nil (array_head 0)) (tight_array 0 [] (omega arith) tight_none)
