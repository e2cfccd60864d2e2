-- The rows of each group of a file ascend, each before all that follow it.
use Rattle.std.proofs.Common.{◌≡◌, ℕ, suc, ◌+◌, ◌<◌, Bool, true, false, not, ◌&&◌, cond, List, [], ◌∷◌, ◌++◌, map, length, get_or, Option, Some, None, Result, Ok, Err, IfSome, arith, refl, sym, ap, ◌∙◌, subst}
use Rattle.std.specs.Ordering.{nat_cmp, bool_cmp, is_lt, is_eq, on, then_cmp, ordering_then, ordering_reverse}
use Rattle.std.specs.declared.cmp.Ordering.{Ordering}
use Rattle.std.specs.declared.cmp.Ordering.TheVariants.{Less, Equal, Greater}
use Rattle.std.specs.Cmp.Lexicographic.{slice_cmp}
use Rattle.std.specs.Str.{is_utf8}
use Rattle.std.specs.List.{All, AllByRecursion, filter}
use Rattle.std.specs.List.Sorted.{IsStrictlySortedBy, IsSortedBy, ties}
use Rattle.std.proofs.lemmas.Cmp.{nat_list_cmp_total, tied_itself}
use Rattle.std.proofs.lemmas.List.Elements.{All-from_recursion}
use Rattle.std.proofs.lemmas.List.Kept.{IsStrictlySortedBy-filter}
use Rattle.std.proofs.lemmas.List.Sorted.{sorted_far}
use Rattle.std.proofs.lemmas.Map.Keys.{sorted_head, sorted_tail}
use Rattle.std.proofs.lemmas.Map.Text.{is_eq-slice_cmp}
use Rattle.gateway_words.specs.Reading.{◌>>=◌}
use Rattle.serde_json.specs.Data.{Data, object, Members, no_members, member}
use Rattle.serde_json.specs.Find.{get, as_object}
use Rattle.serde_json.specs.Read as json
use Rattle.conda_name.specs.declared.name.NameRefusal.{NameRefusal}
use Rattle.conda_name.specs.Name.{name_of}
use Rattle.conda_record.specs.Record.{Fields}
use Rattle.conda_record.specs.Json.{fields_of_json}
use Rattle.shard_file.specs.Rows.{Row, file_lt, packages_key, conda_key}
use Rattle.shard_file.specs.Writing.{row_cmp}
use Rattle.shard_file.proofs.SortLemmas.{file_order}
use Rattle.channel_indexer.specs.declared.fault.IndexFault.TheVariants as fault
use Rattle.channel_indexer.specs.Input.{or_fault, json_in, members_of, row_of, row_if_said, row_if_named, rows_of, rows_of_parts, rows_in, rows_from}
use Rattle.channel_indexer.specs.Groups.{Group, is_named, rows_under}
use Rattle.channel_indexer.specs.Indexing.{SaysGroups}
use Rattle.channel_indexer.proofs.InputLemmas.{bind-ok}
use Rattle.channel_indexer.proofs.MemberLemmas.{names_in, Ascend, Ascends, read-ascends, get-ascends, no-ascend}
use Rattle.channel_indexer.proofs.UniqueLemmas.{first-rows}

-- rows of packages come before those of packages.conda, and else they are in the order of their file names
abbrev part_cmp : Row → Row → Ordering
part_cmp = then_cmp (on (λ r. r.conda) bool_cmp) (on (λ r. r.file) (slice_cmp nat_cmp))

-- ---- one part

-- the row of a member has its name, and stands in this part
record IsRowOf (conda : Bool) (file : List ℕ) (r : Row) : Type 0 where
  pub named : r.file ≡ file
  pub placed : r.conda ≡ conda

row-named : (conda : Bool) (file : List ℕ) (fields : Fields) (read : Result (List ℕ) NameRefusal) (r : Row) → row_if_named conda file fields read ≡ Ok r → IsRowOf conda file r
row-named conda file fields (Ok name) r e =
    let same : ◌≡◌ {A = Row} (record { file = file; conda = conda; fields = fields }) r = cc in
    subst (IsRowOf conda file) same (record { named = refl; placed = refl })
row-named conda file fields (Err f) r e = absurd (cc)

row-said : (conda : Bool) (file : List ℕ) (said : Option Fields) (r : Row) → row_if_said conda file said ≡ Ok r → IsRowOf conda file r
row-said conda file (Some fields) r e = row-named conda file fields (name_of fields.name) r e
row-said conda file None r e = absurd (cc)

-- a file name comes before those of some rows, which all stand in one part
abbrev Behind : Bool → List ℕ → List Row → Type 0
Behind conda file rows = AllByRecursion (λ (r : Row). (slice_cmp nat_cmp file r.file ≡ Less) × (r.conda ≡ conda)) rows

rows-behind : (conda : Bool) (ms : Members) (rows : List Row) (k : List ℕ) → rows_of conda ms ≡ Ok rows
    → AllByRecursion (λ l. slice_cmp nat_cmp k l ≡ Less) (names_in ms) → Behind conda k rows
rows-behind conda no_members rows k e low = let none : ◌≡◌ {A = List Row} [] rows = cc in subst (Behind conda k) none tt
rows-behind conda (member file d ms) rows k e low =
    let first = bind-ok (row_of conda file d) (λ r. rows_of conda ms >>= λ rs. Ok (r ∷ rs)) rows e in
    let rest = bind-ok (rows_of conda ms) (λ rs. Ok (first.0 ∷ rs)) rows first.1.1 in
    let same : first.0 ∷ rest.0 ≡ rows = cc (rest.1.1) in
    let is = row-said conda file (fields_of_json d) first.0 first.1.0 in
    subst (Behind conda k) same ((ap (slice_cmp nat_cmp k) is.named ∙ low.0, is.placed), rows-behind conda ms rest.0 k rest.1.0 low.1)

bool-same : (b : Bool) → bool_cmp b b ≡ Equal
bool-same true = refl
bool-same false = refl

-- a row comes before those behind its file name in one part
part-behind : (conda : Bool) (r : Row) (rows : List Row) → r.conda ≡ conda → Behind conda r.file rows → AllByRecursion (λ s. part_cmp r s ≡ Less) rows
part-behind conda r [] is h = tt
part-behind conda r (s ∷ rows) is h =
    let same : bool_cmp r.conda s.conda ≡ Equal = ap (λ b. bool_cmp b s.conda) is ∙ ap (bool_cmp conda) h.0.1 ∙ bool-same conda in
    (ap (λ o. ordering_then o (slice_cmp nat_cmp r.file s.file)) same ∙ h.0.0, part-behind conda r rows is h.1)

-- rows of members that ascend, ascend
rows-ascend : (conda : Bool) (ms : Members) (rows : List Row) → rows_of conda ms ≡ Ok rows → Ascend ms → IsStrictlySortedBy part_cmp rows
unfolding IsStrictlySortedBy
rows-ascend conda no_members rows e up = let none : ◌≡◌ {A = List Row} [] rows = cc in subst (IsStrictlySortedBy part_cmp) none tt
rows-ascend conda (member file d ms) rows e up =
    let first = bind-ok (row_of conda file d) (λ r. rows_of conda ms >>= λ rs. Ok (r ∷ rs)) rows e in
    let rest = bind-ok (rows_of conda ms) (λ rs. Ok (first.0 ∷ rs)) rows first.1.1 in
    let same : first.0 ∷ rest.0 ≡ rows = cc (rest.1.1) in
    let is = row-said conda file (fields_of_json d) first.0 first.1.0 in
    subst (IsStrictlySortedBy part_cmp) same
    (part-behind conda first.0 rest.0 is.placed (subst (λ (k : List ℕ). Behind conda k rest.0) (sym is.named) (rows-behind conda ms rest.0 file rest.1.0 up.0)), rows-ascend conda ms rest.0 rest.1.0 up.1)

-- all rows of a part stand in it
rows-in-part : (conda : Bool) (ms : Members) (rows : List Row) → rows_of conda ms ≡ Ok rows → AllByRecursion (λ (r : Row). r.conda ≡ conda) rows
rows-in-part conda no_members rows e = let none : ◌≡◌ {A = List Row} [] rows = cc in subst (AllByRecursion (λ (r : Row). r.conda ≡ conda)) none tt
rows-in-part conda (member file d ms) rows e =
    let first = bind-ok (row_of conda file d) (λ r. rows_of conda ms >>= λ rs. Ok (r ∷ rs)) rows e in
    let rest = bind-ok (rows_of conda ms) (λ rs. Ok (first.0 ∷ rs)) rows first.1.1 in
    let same : first.0 ∷ rest.0 ≡ rows = cc (rest.1.1) in
    let is = row-said conda file (fields_of_json d) first.0 first.1.0 in
    subst (AllByRecursion (λ (r : Row). r.conda ≡ conda)) same (is.placed, rows-in-part conda ms rest.0 rest.1.0)

-- ---- both parts

-- a row of packages comes before all of packages.conda
before-part : (p : Row) (cs : List Row) → p.conda ≡ false → AllByRecursion (λ (r : Row). r.conda ≡ true) cs → AllByRecursion (λ s. part_cmp p s ≡ Less) cs
before-part p [] is h = tt
before-part p (c ∷ cs) is h =
    let less : bool_cmp p.conda c.conda ≡ Less = ap (λ b. bool_cmp b c.conda) is ∙ ap (bool_cmp false) h.0 in
    (ap (λ o. ordering_then o (slice_cmp nat_cmp p.file c.file)) less, before-part p cs is h.1)

before-both : (p : Row) (ps cs : List Row) → AllByRecursion (λ s. part_cmp p s ≡ Less) ps → AllByRecursion (λ s. part_cmp p s ≡ Less) cs → AllByRecursion (λ s. part_cmp p s ≡ Less) (ps ++ cs)
before-both p [] cs a b = b
before-both p (q ∷ ps) cs a b = (a.0, before-both p ps cs a.1 b)

both-ascend : (ps cs : List Row) → IsStrictlySortedBy part_cmp ps → IsStrictlySortedBy part_cmp cs → AllByRecursion (λ (r : Row). r.conda ≡ false) ps
    → AllByRecursion (λ (r : Row). r.conda ≡ true) cs → IsStrictlySortedBy part_cmp (ps ++ cs)
unfolding IsStrictlySortedBy
both-ascend [] cs up high old new = high
both-ascend (p ∷ ps) cs up high old new = (before-both p ps cs up.0 (before-part p cs old.0 new), both-ascend ps cs up.1 high old.1 new)

parts-ascend : (packages conda : Members) (rows : List Row) → Ascend packages → Ascend conda → rows_of_parts packages conda ≡ Ok rows → IsStrictlySortedBy part_cmp rows
parts-ascend packages conda rows up high e =
    let ps = bind-ok (rows_of false packages) (λ ps. rows_of true conda >>= λ cs. Ok (ps ++ cs)) rows e in
    let cs = bind-ok (rows_of true conda) (λ cs. Ok (ps.0 ++ cs)) rows ps.1.1 in
    let same : ps.0 ++ cs.0 ≡ rows = cc (cs.1.1) in
    subst (IsStrictlySortedBy part_cmp) same
    (both-ascend ps.0 cs.0 (rows-ascend false packages ps.0 ps.1.0 up) (rows-ascend true conda cs.0 cs.1.0 high) (rows-in-part false packages ps.0 ps.1.0) (rows-in-part true conda cs.0 cs.1.0))

-- ---- a whole file

members-ascend : (o : Option Data) (ms : Members) → IfSome o Ascends → members_of o ≡ Ok ms → Ascend ms
members-ascend None ms up e = let none : no_members ≡ ms = cc in subst Ascend none no-ascend
members-ascend (Some (object found)) ms up e = let same : found ≡ ms = cc in subst Ascend same up.0
members-ascend (Some d) ms up e = absurd (cc)

part-ascends : (k : List ℕ) (d : Data) → Ascends d → IfSome (get k d) Ascends
part-ascends k (object ms) up = get-ascends k ms up.1
part-ascends k d up = tt

in-ascend : (d : Data) (rows : List Row) → Ascends d → rows_in d ≡ Ok rows → IsStrictlySortedBy part_cmp rows
in-ascend d rows up e =
    let top = bind-ok (or_fault fault.Json (as_object d)) (λ top. members_of (get packages_key d) >>= λ packages. members_of (get conda_key d) >>= λ conda. rows_of_parts packages conda) rows e in
    let packages = bind-ok (members_of (get packages_key d)) (λ packages. members_of (get conda_key d) >>= λ conda. rows_of_parts packages conda) rows top.1.1 in
    let conda = bind-ok (members_of (get conda_key d)) (λ conda. rows_of_parts packages.0 conda) rows packages.1.1 in
    parts-ascend packages.0 conda.0 rows (members-ascend (get packages_key d) packages.0 (part-ascends packages_key d up) packages.1.0)
    (members-ascend (get conda_key d) conda.0 (part-ascends conda_key d up) conda.1.0) conda.1.1

value-ascends : (bytes : List ℕ) (d : Data) → json_in bytes ≡ Ok d → Ascends d
value-ascends bytes d e = go (is_utf8 bytes) e
  where
    read-is : (o : Option Data) → IfSome o Ascends → or_fault fault.Json o ≡ Ok d → Ascends d
    read-is (Some found) up is = let same : found ≡ d = cc in subst Ascends same up
    read-is None up is = absurd (cc)

    go : (b : Bool) → or_fault fault.Json (cond b (json.read bytes) None) ≡ Ok d → Ascends d
    go true is = read-is (json.read bytes) (read-ascends bytes) is
    go false is = absurd (cc)

-- the rows that some bytes say ascend by their parts
stood-ascend : (bytes : List ℕ) (stood : List Row) → rows_from bytes ≡ Ok stood → IsStrictlySortedBy part_cmp stood
unfolding rows_from
stood-ascend bytes stood e =
    let value = bind-ok (json_in bytes) (λ d. rows_in d) stood e in
    in-ascend value.0 stood (value-ascends bytes value.0 value.1.0) value.1.1

-- ---- the rows in the order of their file names

-- a row that comes before another by its part, or by its file name, does so by file name first
row-before : (x y : Row) → file_lt y x ≡ false → (ties file_lt x y ≡ true → part_cmp x y ≡ Less) → row_cmp x y ≡ Less
row-before x y low part = go (slice_cmp nat_cmp x.file y.file) refl
  where
    by-part : (o : Ordering) → bool_cmp x.conda y.conda ≡ o → ordering_then o Equal ≡ Less → o ≡ Less
    by-part Less is e = refl
    by-part Equal is e = e
    by-part Greater is e = e

    go : (o : Ordering) → slice_cmp nat_cmp x.file y.file ≡ o → row_cmp x y ≡ Less
    go Less e = ap (λ o. ordering_then o (bool_cmp x.conda y.conda)) e
    go Equal e =
        let back : slice_cmp nat_cmp y.file x.file ≡ Equal = nat_list_cmp_total.antisymm y.file x.file ∙ ap ordering_reverse e in
        let tie : ties file_lt x y ≡ true = ap (λ o. not (is_lt o) && not (is_lt (slice_cmp nat_cmp y.file x.file))) e ∙ ap (λ o. true && not (is_lt o)) back in
        let less : bool_cmp x.conda y.conda ≡ Less =
        by-part (bool_cmp x.conda y.conda) refl (sym (ap (ordering_then (bool_cmp x.conda y.conda)) e) ∙ part tie) in
        ap (λ o. ordering_then o (bool_cmp x.conda y.conda)) e ∙ less
    go Greater e =
        let back : slice_cmp nat_cmp y.file x.file ≡ Less = nat_list_cmp_total.antisymm y.file x.file ∙ ap ordering_reverse e in
        absurd (let wrong : true ≡ false = sym (ap is_lt back) ∙ low in cc)

-- the first row comes before all others
first-before : (x : Row) (ys : List Row) → AllByRecursion (λ y. file_lt y x ≡ false) ys → AllByRecursion (λ y. part_cmp x y ≡ Less) (filter (ties file_lt x) ys)
    → AllByRecursion (λ y. row_cmp x y ≡ Less) ys
first-before x [] low h = tt
first-before x (y ∷ ys) low h = go (ties file_lt x y) refl h (λ later. first-before x ys low.1 later)
  where
    go : (b : Bool) → ties file_lt x y ≡ b → AllByRecursion (λ y. part_cmp x y ≡ Less) (cond b (y ∷ filter (ties file_lt x) ys) (filter (ties file_lt x) ys))
        → (AllByRecursion (λ y. part_cmp x y ≡ Less) (filter (ties file_lt x) ys) → AllByRecursion (λ y. row_cmp x y ≡ Less) ys)
        → AllByRecursion (λ y. row_cmp x y ≡ Less) (y ∷ ys)
    go true tie h later = (row-before x y low.0 (λ tied. h.0), later h.1)
    go false tie h later = (row-before x y low.0 (λ tied. absurd (let wrong : true ≡ false = sym tied ∙ tie in cc)), later h)

none-less : (x : Row) (ys : List Row) → ((k : ℕ) (d : Row) → k < length ys → file_lt (get_or ys k d) x ≡ false) → AllByRecursion (λ y. file_lt y x ≡ false) ys
none-less x [] h = tt
none-less x (y ∷ ys) h = (h 0 y (omega arith), none-less x ys (λ k d low. h (suc k) d (omega arith)))

-- in each list of rows of one file name, those of packages come first
abbrev TiesAscend : List Row → Type 0
TiesAscend rows = (x : Row) → IsStrictlySortedBy part_cmp (filter (ties file_lt x) rows)

tail-ties : (x : Row) (rows : List Row) → TiesAscend (x ∷ rows) → TiesAscend rows
tail-ties x rows up z = go (ties file_lt z x) (up z)
  where
    go : (b : Bool) → IsStrictlySortedBy part_cmp (cond b (x ∷ filter (ties file_lt z) rows) (filter (ties file_lt z) rows)) → IsStrictlySortedBy part_cmp (filter (ties file_lt z) rows)
    go true h = sorted_tail part_cmp x (filter (ties file_lt z) rows) h
    go false h = h

ties-itself : (x : Row) → ties file_lt x x ≡ true
ties-itself x = ap (λ o. not (is_lt o) && not (is_lt o)) (itself-equal x.file)
  where
    itself-equal : (k : List ℕ) → slice_cmp nat_cmp k k ≡ Equal
    itself-equal k = tied_itself nat_list_cmp_total k

ordered-ascend : (rows : List Row) → IsSortedBy file_lt rows → TiesAscend rows → IsStrictlySortedBy row_cmp rows
unfolding IsStrictlySortedBy
ordered-ascend [] low up = tt
ordered-ascend (x ∷ rows) low up =
    let tied : IsStrictlySortedBy part_cmp (x ∷ filter (ties file_lt x) rows) =
    subst (λ (b : Bool). IsStrictlySortedBy part_cmp (cond b (x ∷ filter (ties file_lt x) rows) (filter (ties file_lt x) rows))) (ties-itself x) (up x) in (
      first-before x rows (none-less x rows (λ k d lt. sorted_far file_lt file_order (x ∷ rows) low 0 (suc k) d (omega arith) (omega arith))) (sorted_head part_cmp x (filter (ties file_lt x) rows) tied),
      ordered-ascend rows (tail-low low) (tail-ties x rows up),
    )
  where
    tail-low : IsSortedBy file_lt (x ∷ rows) → IsSortedBy file_lt rows
    tail-low low k d from high = let h : suc k + 1 ≡ suc (k + 1) = omega arith in subst (λ (i : ℕ). file_lt (get_or (x ∷ rows) i d) (get_or rows k d) ≡ false) h (low (suc k) d (omega arith) (omega arith))

-- ---- the rows of each group

-- rows under a name other than the first
under-other : (name : List ℕ) (g : Group) (gs : List Group) → slice_cmp nat_cmp g.name name ≡ Less → rows_under name (g ∷ gs) ≡ rows_under name gs
under-other name g gs less =
    let back : slice_cmp nat_cmp name g.name ≡ Greater = nat_list_cmp_total.antisymm name g.name ∙ ap ordering_reverse less in
    ap (λ b. cond b g.rows (rows_under name gs)) (sym (is_eq-slice_cmp name g.name) ∙ ap is_eq back)

-- the rows of each group are those under its name
abbrev pub AreUnder : List Group → List Group → Type 0
AreUnder all groups = AllByRecursion (λ (g : Group). rows_under g.name all ≡ g.rows) groups

under-more : (g : Group) (gs hs : List Group) → AllByRecursion (λ name. slice_cmp nat_cmp g.name name ≡ Less) (map (λ (g : Group). g.name) hs) → AreUnder gs hs → AreUnder (g ∷ gs) hs
under-more g gs [] low h = tt
under-more g gs (k ∷ hs) low h = (under-other k.name g gs low.0 ∙ h.0, under-more g gs hs low.1 h.1)

pub each-under : (groups : List Group) → IsStrictlySortedBy (slice_cmp nat_cmp) (map (λ (g : Group). g.name) groups) → AreUnder groups groups
unfolding IsStrictlySortedBy
each-under [] up = tt
each-under (g ∷ gs) up = (first-rows g gs, under-more g gs gs up.0 (each-under gs up.1))

groups-ascend : (rows : List Row) (all groups : List Group) → IsStrictlySortedBy row_cmp rows → ((name : List ℕ) → rows_under name all ≡ filter (is_named name) rows)
    → AreUnder all groups → AllByRecursion (λ (g : Group). IsStrictlySortedBy row_cmp g.rows) groups
groups-ascend rows all [] up each under = tt
groups-ascend rows all (g ∷ gs) up each under =
    (subst (IsStrictlySortedBy row_cmp) (sym (each g.name) ∙ under.0) (IsStrictlySortedBy-filter row_cmp (is_named g.name) rows up), groups-ascend rows all gs up each under.1)

-- the rows of each group that a file says ascend
pub said-ascend : (bytes : List ℕ) (stood : List Row) (groups : List Group) → SaysGroups bytes stood groups → All (λ (g : Group). IsStrictlySortedBy row_cmp g.rows) groups
said-ascend bytes stood groups said =
    let tied : TiesAscend said.rows = λ x. subst (IsStrictlySortedBy part_cmp) (sym (said.in_order.in_order x)) (IsStrictlySortedBy-filter part_cmp (ties file_lt x) stood (stood-ascend bytes stood said.read)) in
    let up : IsStrictlySortedBy row_cmp said.rows = ordered-ascend said.rows said.in_order.ascending tied in
    All-from_recursion (λ (g : Group). IsStrictlySortedBy row_cmp g.rows) groups
    (groups-ascend said.rows groups groups up said.grouped.each (each-under groups said.grouped.ascending))
