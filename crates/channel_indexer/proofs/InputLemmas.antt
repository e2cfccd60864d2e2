-- Reading repodata.json, file by file.
use Rattle.std.proofs.Common.{◌⊎◌, inl, inr, subst, arith, length, ◌==◌, ◌≡◌, ℕ, Bool, true, false, cond, List, [], ◌∷◌, ◌++◌, Option, Some, None, Result, Ok, Err, refl, sym, ap, ◌∙◌, append_assoc}
use Rattle.std.specs.Str.{is_utf8, IsUtf8}
use Rattle.std.proofs.lemmas.Str.{IsUtf8-from_is_utf8, is_utf8-from_IsUtf8}
use Rattle.gateway_words.specs.Reading.{◌>>=◌}
use Rattle.serde_json.specs.Data.{Data, Members, no_members, member}
use Rattle.serde_json.specs.Read as json
use Rattle.std.specs.List.{All}
use Rattle.std.proofs.lemmas.Bool.Decides.{nat_tests}
use Rattle.std.proofs.lemmas.List.Elements.{All-cons, All-append}
use Rattle.conda_name.specs.declared.name.NameRefusal.{NameRefusal}
use Rattle.conda_name.specs.Name.{IsName, name_of, name_unless, first_wrong, lower_case}
use Rattle.conda_name.proofs.NameLemmas.{lower-name}
use Rattle.conda_record.specs.Record.{Fields}
use Rattle.conda_record.specs.Json.{fields_of_json}
use Rattle.serde_json.specs.Find.{get, as_object}
use Rattle.shard_file.specs.Rows.{Row, packages_key, conda_key}
use Rattle.channel_indexer.specs.Groups.{IsNamed}
use Rattle.channel_indexer.specs.declared.fault.IndexFault.{IndexFault}
use Rattle.channel_indexer.specs.declared.fault.IndexFault.TheVariants as fault
use Rattle.channel_indexer.specs.Input.{or_fault, json_in, members_of, row_if_named, row_if_said, row_of, rows_of, rows_of_parts, rows_in, rows_from}

-- bytes that are text and have a reading
pub json-read : (bytes : List ℕ) (d : Data) → IsUtf8 bytes → json.read bytes ≡ Some d → json_in bytes ≡ Ok d
json-read bytes d text read =
    ap (λ b. or_fault fault.Json (cond b (json.read bytes) None)) (is_utf8-from_IsUtf8 bytes text) ∙ ap (or_fault fault.Json) read

-- bytes that are no text, or have no reading
pub json-refused : (bytes : List ℕ) → (IsUtf8 bytes → json.read bytes ≡ None) → json_in bytes ≡ Err fault.Json
json-refused bytes refused = go (is_utf8 bytes) refl
  where
    go : (b : Bool) → is_utf8 bytes ≡ b → json_in bytes ≡ Err fault.Json
    go true e = ap (λ b. or_fault fault.Json (cond b (json.read bytes) None)) e ∙ ap (or_fault fault.Json) (refused (IsUtf8-from_is_utf8 bytes e))
    go false e = ap (λ b. or_fault fault.Json (cond b (json.read bytes) None)) e

behind : (done : List Row) (r : Row) (rest : Result (List Row) IndexFault)
    → ((rest >>= λ rs. Ok (r ∷ rs)) >>= λ rs. Ok (done ++ rs)) ≡ (rest >>= λ rs. Ok ((done ++ r ∷ []) ++ rs))
behind done r (Ok rs) = ap Ok (sym (append_assoc done (r ∷ []) rs))
behind done r (Err e) = refl

-- a loop's step: the row of the next file goes behind those so far
pub rows-on : (conda : Bool) (file : List ℕ) (d : Data) (rest : Members) (done : List Row) (r : Row) → row_of conda file d ≡ Ok r
    → (rows_of conda (member file d rest) >>= λ rs. Ok (done ++ rs)) ≡ (rows_of conda rest >>= λ rs. Ok ((done ++ r ∷ []) ++ rs))
rows-on conda file d rest done r is =
    ap (λ (first : Result Row IndexFault). (first >>= λ r. rows_of conda rest >>= λ rs. Ok (r ∷ rs)) >>= λ rs. Ok (done ++ rs)) is
    ∙ behind done r (rows_of conda rest)

-- behind no rows a reading is what it was
pub behind_nothing : (rows : Result (List Row) IndexFault) → (rows >>= λ rs. Ok ([] ++ rs)) ≡ rows
behind_nothing (Ok rs) = refl
behind_nothing (Err e) = refl

-- ---- what the rows of repodata.json are

-- a reading behind another one that is Ok, or that has this fault
pub bind-ok : {A B E : Type 0} (x : Result A E) (f : A → Result B E) (y : B) → (x >>= f) ≡ Ok y → (a : A) × ((x ≡ Ok a) × (f a ≡ Ok y))
bind-ok (Ok a) f y e = (a, (refl, e))
bind-ok (Err b) f y e = absurd (cc)

pub bind-err : {A B E : Type 0} (x : Result A E) (f : A → Result B E) (y : E) → (x >>= f) ≡ Err y → (x ≡ Err y) ⊎ ((a : A) × ((x ≡ Ok a) × (f a ≡ Err y)))
bind-err (Ok a) f y e = inr (a, (refl, e))
bind-err (Err b) f y e = let same : b ≡ y = cc in inl (ap Err same)

-- a text that is read as a name is a name in lower case
named-from : (t n : List ℕ) → name_of t ≡ Ok n → IsName (lower_case t)
named-from [] n e = absurd (cc)
named-from (b ∷ rest) n e = go (first_wrong (b ∷ rest)) refl e
  where
    go : (o : Option ℕ) → first_wrong (b ∷ rest) ≡ o → name_unless (b ∷ rest) o ≡ Ok n → IsName (lower_case (b ∷ rest))
    go None right e = let some : (length (b ∷ rest) == 0) ≡ false = grind (arith, nat_tests) in lower-name (b ∷ rest) some right
    go (Some at) right e = absurd (cc)

row-of-said : (conda : Bool) (file : List ℕ) (fields : Fields) (read : Result (List ℕ) NameRefusal) (r : Row)
    → name_of fields.name ≡ read → row_if_named conda file fields read ≡ Ok r → IsNamed r
row-of-said conda file fields (Ok name) r is e =
    let same : ◌≡◌ {A = Row} (record { file = file; conda = conda; fields = fields }) r = cc in
    subst IsNamed same (named-from fields.name name is)
row-of-said conda file fields (Err f) r is e = absurd (cc)

row-named : (conda : Bool) (file : List ℕ) (said : Option Fields) (r : Row) → row_if_said conda file said ≡ Ok r → IsNamed r
row-named conda file (Some fields) r e = row-of-said conda file fields (name_of fields.name) r refl e
row-named conda file None r e = absurd (cc)

none-named : (rows : List Row) → ◌≡◌ {A = Result (List Row) IndexFault} (Ok []) (Ok rows) → All IsNamed rows
none-named [] e = λ k d h. absurd (omega arith)
none-named (r ∷ rs) e = absurd (cc)

-- each row has a package name
pub rows-of-named : (conda : Bool) (ms : Members) (rows : List Row) → rows_of conda ms ≡ Ok rows → All IsNamed rows
rows-of-named conda no_members rows e = none-named rows e
rows-of-named conda (member file d ms) rows e =
    let first = bind-ok (row_of conda file d) (λ r. rows_of conda ms >>= λ rs. Ok (r ∷ rs)) rows e in
    let rest = bind-ok (rows_of conda ms) (λ rs. Ok (first.0 ∷ rs)) rows first.1.1 in
    let same : first.0 ∷ rest.0 ≡ rows = cc (rest.1.1) in
    subst (All IsNamed) same (All-cons IsNamed first.0 rest.0 (row-named conda file (fields_of_json d) first.0 first.1.0) (rows-of-named conda ms rest.0 rest.1.0))

pub rows-named : (bytes : List ℕ) (rows : List Row) → rows_from bytes ≡ Ok rows → All IsNamed rows
unfolding rows_from
rows-named bytes rows e =
    let value = bind-ok (json_in bytes) (λ d. rows_in d) rows e in
    let d = value.0 in
    let top = bind-ok (or_fault fault.Json (as_object d)) (λ top. members_of (get packages_key d) >>= λ packages. members_of (get conda_key d) >>= λ conda. rows_of_parts packages conda) rows value.1.1 in
    let packages = bind-ok (members_of (get packages_key d)) (λ packages. members_of (get conda_key d) >>= λ conda. rows_of_parts packages conda) rows top.1.1 in
    let conda = bind-ok (members_of (get conda_key d)) (λ conda. rows_of_parts packages.0 conda) rows packages.1.1 in
    let ps = bind-ok (rows_of false packages.0) (λ ps. rows_of true conda.0 >>= λ cs. Ok (ps ++ cs)) rows conda.1.1 in
    let cs = bind-ok (rows_of true conda.0) (λ cs. Ok (ps.0 ++ cs)) rows ps.1.1 in
    let same : ps.0 ++ cs.0 ≡ rows = cc (cs.1.1) in
    subst (All IsNamed) same (All-append IsNamed ps.0 cs.0 (rows-of-named false packages.0 ps.0 ps.1.0) (rows-of-named true conda.0 cs.0 cs.1.0))

-- ---- no fault of these bytes is the store's

or-no-store : {X : Type 0} (o : Option X) → or_fault fault.Json o ≡ Err fault.StoreFault → ⊥
or-no-store (Some x) e = cc
or-no-store None e = cc

members-no-store : (o : Option Data) → members_of o ≡ Err fault.StoreFault → ⊥
members-no-store (Some d) e = or-no-store (as_object d) e
members-no-store None e = cc

named-no-store : (conda : Bool) (file : List ℕ) (fields : Fields) (read : Result (List ℕ) NameRefusal) → row_if_named conda file fields read ≡ Err fault.StoreFault → ⊥
named-no-store conda file fields (Ok name) e = cc
named-no-store conda file fields (Err f) e = cc

row-no-store : (conda : Bool) (file : List ℕ) (said : Option Fields) → row_if_said conda file said ≡ Err fault.StoreFault → ⊥
row-no-store conda file (Some fields) e = named-no-store conda file fields (name_of fields.name) e
row-no-store conda file None e = cc

rows-of-no-store : (conda : Bool) (ms : Members) → rows_of conda ms ≡ Err fault.StoreFault → ⊥
rows-of-no-store conda no_members e = cc
rows-of-no-store conda (member file d ms) e = elim (bind-err (row_of conda file d) (λ r. rows_of conda ms >>= λ rs. Ok (r ∷ rs)) fault.StoreFault e) [
  | inl first ↦ row-no-store conda file (fields_of_json d) first
  | inr r ↦ elim (bind-err (rows_of conda ms) (λ rs. Ok (r.0 ∷ rs)) fault.StoreFault r.1.1) [
    | inl later ↦ rows-of-no-store conda ms later
    | inr rs ↦ cc (rs.1.1)
  ]
]

parts-no-store : (packages conda : Members) → rows_of_parts packages conda ≡ Err fault.StoreFault → ⊥
parts-no-store packages conda e = elim (bind-err (rows_of false packages) (λ ps. rows_of true conda >>= λ cs. Ok (ps ++ cs)) fault.StoreFault e) [
  | inl first ↦ rows-of-no-store false packages first
  | inr ps ↦ elim (bind-err (rows_of true conda) (λ cs. Ok (ps.0 ++ cs)) fault.StoreFault ps.1.1) [
    | inl later ↦ rows-of-no-store true conda later
    | inr cs ↦ cc (cs.1.1)
  ]
]

in-no-store : (d : Data) → rows_in d ≡ Err fault.StoreFault → ⊥
in-no-store d e =
    elim (bind-err (or_fault fault.Json (as_object d)) (λ top. members_of (get packages_key d) >>= λ packages. members_of (get conda_key d) >>= λ conda. rows_of_parts packages conda) fault.StoreFault e) [
      | inl first ↦ or-no-store (as_object d) first
      | inr top ↦ elim (bind-err (members_of (get packages_key d)) (λ packages. members_of (get conda_key d) >>= λ conda. rows_of_parts packages conda) fault.StoreFault top.1.1) [
        | inl second ↦ members-no-store (get packages_key d) second
        | inr packages ↦ elim (bind-err (members_of (get conda_key d)) (λ conda. rows_of_parts packages.0 conda) fault.StoreFault packages.1.1) [
          | inl third ↦ members-no-store (get conda_key d) third
          | inr conda ↦ parts-no-store packages.0 conda.0 conda.1.1
        ]
      ]
    ]

-- what bytes say has no fault of the store
pub from-no-store : (bytes : List ℕ) → rows_from bytes ≡ Err fault.StoreFault → ⊥
unfolding rows_from
from-no-store bytes e = elim (bind-err (json_in bytes) (λ d. rows_in d) fault.StoreFault e) [
  | inl first ↦ or-no-store (cond (is_utf8 bytes) (json.read bytes) None) first
  | inr d ↦ in-no-store d.0 d.1.1
]
