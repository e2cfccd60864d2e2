-- The info of an index is read right.
use Rattle.std.proofs.Common.{◌≡◌, refl, sym, ◌∙◌, ap, subst, ℕ, zero, suc, ◌<◌, ◌≤◌, true, List, [], arith, codes}
use Rattle.std.specs.Prelude.{Option, Some, None, unwrap_or}
use Rattle.std.specs.Option.{option_flatten}
use Rattle.gateway_words.specs.Places.{Position}
use Rattle.mp_codec.specs.declared.fault.FormatFault.{FormatFault}
use Rattle.mp_codec.specs.Value.{Value, Pairs, pairs_of}
use Rattle.mp_codec.specs.Fault.{Faults, no_fault, MapRules, MapFault}
use Rattle.mp_codec.specs.Keys.{value_at, MissingKey, missing}
use Rattle.mp_codec.specs.Maps.{Read, str_from, is_distinct, known_map_from}
use Rattle.mp_codec.proofs.JudgingLemmas.{StandBehind, JudgesOne}
use Rattle.mp_codec.proofs.LeafLemmas.{HasStr, str_judged, skipped_judged}
use Rattle.mp_codec.proofs.MapLemmas.{mapped, same_faults, map_behind}
use Rattle.mp_codec.proofs.KeyLemmas.{KnowsFrom, datum_at, table_rules, table_pairs_behind, table_judged}
use Rattle.mp_codec.proofs.MappedLemmas.{turned, known_map_turned, data_of, knows_is}
use Rattle.mp_codec.proofs.RuleLemmas.{RulesWithin, map_within}
use Rattle.shard_index.specs.Info.{Info, info_keys, default_base, default_shards_base, text_in, text_of, text_behind, info_in, info_rules, InfoFault, optional_text_from, info_datum_from, info_read, info_end_from, info_from}

-- ---- the values of the known keys

abbrev HasText : Option (List ℕ) → Value → Type 0
HasText o v = text_of v ≡ o

optional_text_judged : (here : Position) → JudgesOne no_fault HasText here (optional_text_from here)
unfolding optional_text_from
optional_text_judged here = mapped no_fault HasStr HasText text_in here (str_from here) (λ o v is. ap text_in is) (str_judged here)

-- what the value of the key at this place says
abbrev info_datum : ℕ → Value → Option (List ℕ)
info_datum zero v = text_of v
info_datum (suc zero) v = text_of v
info_datum (suc (suc zero)) v = text_of v
info_datum (suc (suc (suc i))) v = None

-- nothing is asked of the values
abbrev asked : ℕ → Faults
asked i = no_fault

each : (i : ℕ) (here : Position) → i < 4 → JudgesOne (asked i) (λ o v. info_datum i v ≡ o) here (info_datum_from i here)
each zero here lt = optional_text_judged here
each (suc zero) here lt = optional_text_judged here
each (suc (suc zero)) here lt = optional_text_judged here
each (suc (suc (suc zero))) here lt = skipped_judged None (λ o v. info_datum 3 v ≡ o) here (λ v there l. refl)
each (suc (suc (suc (suc i)))) here lt = absurd (omega arith)

not_asked : (i : ℕ) (here : Position) (f : FormatFault) → 4 ≤ i → asked i here f → ⊥
not_asked i here f le p = p

asked_behind : (i : ℕ) → StandBehind (asked i)
asked_behind i here f p = absurd p

pub differ : is_distinct info_keys ≡ true
differ = refl

abbrev Table : MapRules
Table = table_rules info_keys differ 0 asked info_datum info_datum_from each not_asked asked_behind

-- no key is required, so none is missing
none_missing : {front : Pairs} {here : Position} {f : FormatFault} → MissingKey [] front here f → ⊥
none_missing (missing e) = absurd (cc)

table_within : RulesWithin Table info_rules
table_within = record { key = λ front here f p. p; value = λ key here f p. p; end = λ front here f p. none_missing p }

within_table : RulesWithin info_rules Table
within_table = record { key = λ front here f p. p; value = λ key here f p. p; end = λ front here f p. absurd p }

-- ---- the info

-- the info is that of the value
abbrev pub IsInfo : Info → Value → Type 0
IsInfo info v = info ≡ info_in (pairs_of v)

flat : (o : Option Value) → option_flatten (datum_at text_of o) ≡ text_behind o
flat (Some v) = refl
flat None = refl

info_said : (ps : Pairs) → info_read (data_of info_datum 0 info_keys ps) ≡ info_in ps
info_said ps = λ i. record {
  base_url = unwrap_or (flat (value_at (codes "base_url") ps) i) default_base;
  shards_base_url = unwrap_or (flat (value_at (codes "shards_base_url") ps) i) default_shards_base;
  subdir = unwrap_or (flat (value_at (codes "subdir") ps) i) [];
}

pub info_is : (here : Position) → info_from here ≡ turned info_read (known_map_from info_keys 0 info_datum_from here)
unfolding info_from info_end_from
info_is here = known_map_turned info_keys 0 info_datum_from info_read here

pub info_judged : (here : Position) → JudgesOne InfoFault IsInfo here (info_from here)
info_judged here =
    subst (λ (r : Read Info). JudgesOne InfoFault IsInfo here r) (sym (info_is here))
    (mapped InfoFault (λ s v. KnowsFrom info_datum 0 info_keys s (pairs_of v)) IsInfo info_read here (known_map_from info_keys 0 info_datum_from here)
    (λ s v k. ap info_read (knows_is info_datum 0 info_keys s (pairs_of v) k) ∙ info_said (pairs_of v))
    (same_faults (MapFault Table) InfoFault (λ s v. KnowsFrom info_datum 0 info_keys s (pairs_of v)) here (known_map_from info_keys 0 info_datum_from here)
    (map_within Table info_rules table_within here) (map_within info_rules Table within_table here)
    (table_judged info_keys differ 0 asked info_datum info_datum_from each not_asked asked_behind here)))

pub info_behind : StandBehind InfoFault
info_behind here f p =
    map_behind Table (λ n. table_pairs_behind info_keys differ 0 asked info_datum info_datum_from each not_asked asked_behind [] n) here f (map_within info_rules Table within_table here f p)
