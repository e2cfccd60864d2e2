-- A map from names to digests is read right.
use Rattle.std.proofs.Common.{◌≡◌, refl, sym, ◌∙◌, ap, ℕ, Bool, true, false, cond, ◌||◌, List, [], ◌∷◌, ◌++◌, map}
use Rattle.std.specs.Prelude.{Option, Some, unwrap_or, is_some}
use Rattle.std.specs.Str.{bytes_eq}
use Rattle.digest_gate.specs.declared.digest.Digest.{Digest}
use Rattle.gateway_words.specs.Places.{Position}
use Rattle.mp_codec.specs.Value.{Value, Pairs, pairs_of, str_of}
use Rattle.mp_codec.specs.Fault.{no_fault, PairsFault}
use Rattle.mp_codec.specs.Keys.{has_bytes, is_key, value_at, has_key}
use Rattle.mp_codec.proofs.NameMapLemmas.{AllStrs, IsName, NameFault, map_more, name_judged, names_behind, strs_more}
use Rattle.mp_codec.proofs.JudgingLemmas.{StandBehind, JudgesOne}
use Rattle.mp_codec.proofs.MapLemmas.{mapped, JudgesEnd, pairs_behind, entries_judged, map_judged, map_behind}
use Rattle.shard_index.specs.Digests.{digest_of, DigestFault, digest_from}
use Rattle.shard_index.specs.Index.{Listed, listed_of, shards_rules, ShardsFault}
use Rattle.shard_index.specs.Reading.{is_listed, name_from, listed_value_from, listed_end_from, listed_after, listed_from}
use Rattle.shard_index.proofs.DigestLemmas.{IsDigest, digest_judged, digest_stands}

-- ---- what is known of the names in front

-- what is listed are the pairs in front
pub record Knows (listed : List Listed) (front : Pairs) : Type 0 where
  pub are : listed ≡ map listed_of front
  pub strs : AllStrs front

-- a name stands in front exactly where it is listed
met_is : (front : Pairs) (name : List ℕ) → AllStrs front → is_listed name (map listed_of front) ≡ has_key name front
met_is [] name strs = refl
met_is (p ∷ ps) name strs =
    let str : str_of p.0 ≡ Some strs.0.0 = strs.0.1 in
    let first : bytes_eq (unwrap_or (str_of p.0) []) name ≡ is_key name p.0 = ap (λ (o : Option (List ℕ)). bytes_eq (unwrap_or o []) name) str ∙ ap (has_bytes name) (sym str) in
    ap (λ (b : Bool). b || is_listed name (map listed_of ps)) first ∙ ap (λ (b : Bool). is_key name p.0 || b) (met_is ps name strs.1) ∙ or_is (is_key name p.0)
  where
    or_is : (b : Bool) → (b || has_key name ps) ≡ is_some (cond b (Some p.1) (value_at name ps))
    or_is true = refl
    or_is false = refl

-- ---- the readers of a name, of its digest, and of the end

keys_judged : (listed : List Listed) (front : Pairs) (here : Position) → Knows listed front → JudgesOne (NameFault front) IsName here (name_from listed here)
keys_judged listed front here knows =
    name_judged (λ name. is_listed name listed) front here (λ name. ap (λ (xs : List Listed). is_listed name xs) knows.are ∙ met_is front name knows.strs)

values_judged : (listed : List Listed) (front : Pairs) (name : List ℕ) (key : Value) (here : Position) → Knows listed front → IsName name key
    → JudgesOne DigestFault (λ t v. Knows t (front ++ (key, v) ∷ [])) here (listed_value_from listed name here)
unfolding listed_value_from
values_judged listed front name key here knows is =
    mapped DigestFault IsDigest (λ t v. Knows t (front ++ (key, v) ∷ [])) (λ (d : Digest). listed ++ record { name = name; digest = d } ∷ []) here (digest_from here)
    (λ d v says. record {
      are =
          let str : unwrap_or (str_of key) [] ≡ name = ap (λ (o : Option (List ℕ)). unwrap_or o []) is in
          let digest : unwrap_or (digest_of v) (record { 0 = [] }) ≡ d = ap (λ (o : Option Digest). unwrap_or o (record { 0 = [] })) says in
          let same : ◌≡◌ {A = Listed} (record { name = name; digest = d }) (listed_of (key, v)) = λ i. record { name = sym str i; digest = sym digest i } in
          ap (λ (xs : List Listed). xs ++ record { name = name; digest = d } ∷ []) knows.are ∙ ap (λ (x : Listed). map listed_of front ++ x ∷ []) same ∙ sym (map_more listed_of front (key, v));
      strs = strs_more front key v name knows.strs is;
    })
    (digest_judged here)

-- what all pairs list
abbrev pub Final : List Listed → Pairs → Type 0
Final listed ps = listed ≡ map listed_of ps

end_judged : (listed : List Listed) (front : Pairs) (here : Position) → Knows listed front → JudgesEnd no_fault (λ y. Final y front) here (listed_end_from listed here)
end_judged listed front here knows = record { place = refl; good = knows.are; none = λ g p. p }

names_pairs_behind : (front : Pairs) (n : ℕ) → StandBehind (PairsFault shards_rules front n)
names_pairs_behind = pairs_behind shards_rules Knows (λ listed front. IsName) Final name_from listed_value_from listed_end_from
    names_behind (λ key. digest_stands) (λ front here f p. absurd p) keys_judged values_judged end_judged

-- what is listed is what the value's pairs list
abbrev pub AreListed : List Listed → Value → Type 0
AreListed listed v = listed ≡ map listed_of (pairs_of v)

pub listed_judged : (here : Position) → JudgesOne ShardsFault AreListed here (listed_from here)
unfolding listed_from
listed_judged here =
    map_judged shards_rules Final (λ n there. listed_after n [] there) (λ n. names_pairs_behind [] n)
    (λ n there. entries_judged shards_rules Knows (λ listed front. IsName) Final name_from listed_value_from listed_end_from
    names_behind (λ key. digest_stands) (λ front here f p. absurd p) keys_judged values_judged end_judged
    n [] [] there (record { are = refl; strs = tt }))
    here

pub listed_behind : StandBehind ShardsFault
listed_behind = map_behind shards_rules (λ n. names_pairs_behind [] n)
