-- A map of files is read right.
use Rattle.std.proofs.Common.{◌≡◌, refl, sym, ◌∙◌, ap, ℕ, Bool, true, false, cond, ◌||◌, List, [], ◌∷◌, ◌++◌, map}
use Rattle.std.specs.Prelude.{Option, Some, unwrap_or, is_some}
use Rattle.std.specs.Str.{bytes_eq}
use Rattle.gateway_words.specs.Places.{Position}
use Rattle.mp_codec.specs.Value.{Value, Pairs, pairs_of, str_of}
use Rattle.mp_codec.specs.Fault.{no_fault, PairsFault}
use Rattle.mp_codec.specs.Keys.{has_bytes, is_key, value_at, has_key}
use Rattle.mp_codec.proofs.NameMapLemmas.{AllStrs, IsName, NameFault, map_more, name_judged, names_behind, strs_more}
use Rattle.mp_codec.proofs.JudgingLemmas.{StandBehind, JudgesOne}
use Rattle.mp_codec.proofs.MapLemmas.{mapped, JudgesEnd, pairs_behind, entries_judged, map_judged, map_behind}
use Rattle.conda_record.specs.Record.{Fields, RecordFault}
use Rattle.conda_record.specs.Reading.{record_from}
use Rattle.conda_record.proofs.RecordLemmas.{IsRecord, record_judged, record_behind}
use Rattle.shard_file.specs.Rows.{Row, row_of, files_rules, FilesFault}
use Rattle.shard_file.specs.Reading.{has_file, file_key_from, file_value_from, file_end_from, files_after, files_from}

-- ---- what is known of the files in front

-- the rows are those of the pairs in front
pub record Knows (conda : Bool) (rows : List Row) (front : Pairs) : Type 0 where
  pub are : rows ≡ map (row_of conda) front
  pub strs : AllStrs front

-- a file name stands in front exactly where a row has it
met_is : (conda : Bool) (front : Pairs) (name : List ℕ) → AllStrs front → has_file name (map (row_of conda) front) ≡ has_key name front
met_is conda [] name strs = refl
met_is conda (p ∷ ps) name strs =
    let file : str_of p.0 ≡ Some strs.0.0 = strs.0.1 in
    let first : bytes_eq (unwrap_or (str_of p.0) []) name ≡ is_key name p.0 = ap (λ (o : Option (List ℕ)). bytes_eq (unwrap_or o []) name) file ∙ ap (has_bytes name) (sym file) in
    ap (λ (b : Bool). b || has_file name (map (row_of conda) ps)) first ∙ ap (λ (b : Bool). is_key name p.0 || b) (met_is conda ps name strs.1) ∙ or_is (is_key name p.0)
  where
    or_is : (b : Bool) → (b || has_key name ps) ≡ is_some (cond b (Some p.1) (value_at name ps))
    or_is true = refl
    or_is false = refl

-- ---- the readers of a file name, of its record, and of the end

keys_judged : (conda : Bool) (rows : List Row) (front : Pairs) (here : Position) → Knows conda rows front → JudgesOne (NameFault front) IsName here (file_key_from rows here)
keys_judged conda rows front here knows =
    name_judged (λ name. has_file name rows) front here (λ name. ap (λ (rows : List Row). has_file name rows) knows.are ∙ met_is conda front name knows.strs)

values_judged : (conda : Bool) (rows : List Row) (front : Pairs) (name : List ℕ) (key : Value) (here : Position) → Knows conda rows front → IsName name key
    → JudgesOne RecordFault (λ t v. Knows conda t (front ++ (key, v) ∷ [])) here (file_value_from conda rows name here)
unfolding file_value_from
values_judged conda rows front name key here knows is =
    mapped RecordFault IsRecord (λ t v. Knows conda t (front ++ (key, v) ∷ [])) (λ (r : Fields). rows ++ record { file = name; conda = conda; fields = r } ∷ []) here (record_from here)
    (λ r v says. record {
      are =
          let file : unwrap_or (str_of key) [] ≡ name = ap (λ (o : Option (List ℕ)). unwrap_or o []) is in
          let row : ◌≡◌ {A = Row} (record { file = name; conda = conda; fields = r }) (row_of conda (key, v)) = λ i. record { file = sym file i; conda = conda; fields = says i } in
          ap (λ (rows : List Row). rows ++ record { file = name; conda = conda; fields = r } ∷ []) knows.are ∙ ap (λ (row : Row). map (row_of conda) front ++ row ∷ []) row ∙ sym (map_more (row_of conda) front (key, v));
      strs = strs_more front key v name knows.strs is;
    })
    (record_judged here)

-- the rows of all pairs
abbrev pub Final : Bool → List Row → Pairs → Type 0
Final conda rows ps = rows ≡ map (row_of conda) ps

end_judged : (conda : Bool) (rows : List Row) (front : Pairs) (here : Position) → Knows conda rows front → JudgesEnd no_fault (λ y. Final conda y front) here (file_end_from rows here)
end_judged conda rows front here knows = record { place = refl; good = knows.are; none = λ g p. p }

files_pairs_behind : (conda : Bool) (front : Pairs) (n : ℕ) → StandBehind (PairsFault files_rules front n)
files_pairs_behind conda = pairs_behind files_rules (Knows conda) (λ rows front. IsName) (Final conda) file_key_from (file_value_from conda) file_end_from
    names_behind (λ key. record_behind) (λ front here f p. absurd p) (keys_judged conda) (values_judged conda) (end_judged conda)

-- the rows are those of the value's pairs
abbrev pub AreRows : Bool → List Row → Value → Type 0
AreRows conda rows v = rows ≡ map (row_of conda) (pairs_of v)

pub files_judged : (conda : Bool) (here : Position) → JudgesOne FilesFault (AreRows conda) here (files_from conda here)
unfolding files_from
files_judged conda here =
    map_judged files_rules (Final conda) (λ n there. files_after conda n [] there) (λ n. files_pairs_behind conda [] n)
    (λ n there. entries_judged files_rules (Knows conda) (λ rows front. IsName) (Final conda) file_key_from (file_value_from conda) file_end_from
    names_behind (λ key. record_behind) (λ front here f p. absurd p) (keys_judged conda) (values_judged conda) (end_judged conda)
    n [] [] there (record { are = refl; strs = tt }))
    here

pub files_behind : StandBehind FilesFault
files_behind = map_behind files_rules (λ n. files_pairs_behind false [] n)
