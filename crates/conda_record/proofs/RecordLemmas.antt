-- A record is read right: what is read is what stands there, and a fault is the first one.
use Rattle.std.proofs.Common.{◌≡◌, refl, sym, ◌∙◌, ap, subst, ℕ, zero, suc, ◌<◌, ◌≤◌, inl, inr, Bool, true, false, cond, ◌||◌, List, [], arith, codes}
use Rattle.std.specs.Prelude.{Ok, Err, Option, Some, None, unwrap_or, slice_index_or}
use Rattle.std.specs.List.{list_any}
use Rattle.gateway_words.specs.Places.{Position}
use Rattle.mp_codec.specs.declared.fault.FormatFault.{FormatFault}
use Rattle.mp_codec.specs.Value.{Value, Pairs, pairs_of, str_of, number_of}
use Rattle.mp_codec.specs.Fault.{Faults, no_fault, MapFault, MapRules, TextFault, IsFirstFault, WithBreaks}
use Rattle.mp_codec.specs.Keys.{has_bytes, value_at}
use Rattle.mp_codec.specs.Maps.{Read, place_of, is_distinct, text_from, known_map_from}
use Rattle.mp_codec.proofs.FirstLemmas.{one_first}
use Rattle.mp_codec.proofs.JudgingLemmas.{StandBehind, JudgesOne, Reads, lies_whole}
use Rattle.mp_codec.proofs.LeafLemmas.{HasNumber, number_judged, IsText, text_judged, text_behind}
use Rattle.mp_codec.proofs.MapLemmas.{mapped, same_faults, map_behind}
use Rattle.mp_codec.proofs.KeyLemmas.{KnowsFrom, datum_at, table_rules, table_pairs_behind, table_judged}
use Rattle.mp_codec.proofs.MappedLemmas.{turned, known_map_turned, data_of, knows_is}
use Rattle.mp_codec.proofs.RuleLemmas.{RulesWithin, map_within}
use Rattle.mp_codec.proofs.ReaderLemmas.{refuses_first, judged_reads, judged_refuses}
use Rattle.mp_codec.proofs.UniqueLemmas.{SameLie, lies_same}
use Rattle.conda_record.specs.Texts.{text_of, texts_of, texts_from}
use Rattle.conda_record.specs.Digests.{digest_of, digest_from}
use Rattle.conda_record.specs.Record.{Fields, required_keys, optional_keys, record_keys, said, fields_in, fields_of, record_rules, RecordFault, RecordAt}
use Rattle.conda_record.specs.Reading.{Kind, text, number, optional_text, texts, digest, Datum, Text, Number, OptionalText, Texts, Digest, kinds, required, optional_text_from, datum_by, datum_from, text_or_none, number_in, optional_text_in, texts_in, digest_in, fields_from, end_from, record_from}
use Rattle.conda_record.proofs.ValueLemmas.{HasText, optional_text_judged, HasDigest, digest_judged, HasTexts, texts_judged}

-- ---- the values of the known keys

-- what a value says, as one of this kind
abbrev datum_as : Kind → Value → Datum
datum_as text v = Text (unwrap_or (str_of v) [])
datum_as number v = Number (number_of v)
datum_as optional_text v = OptionalText (text_of v)
datum_as texts v = Texts (texts_of v)
datum_as (digest n) v = Digest (digest_of n v)

abbrev pub datum : ℕ → Value → Datum
datum i v = datum_as (slice_index_or kinds i number) v

-- what is asked of the value of the key at this place
abbrev pub asked : ℕ → Faults
asked i here f = (i < required) × TextFault here f

-- a kind that isn't asked for anything
IsFree : Kind → Type 0
IsFree text = ⊥
IsFree number = Unit {0}
IsFree optional_text = Unit {0}
IsFree texts = Unit {0}
IsFree (digest n) = Unit {0}

free_judged : (k : Kind) → IsFree k → (here : Position) → JudgesOne no_fault (λ d v. datum_as k v ≡ d) here (datum_by k here)
unfolding IsFree
free_judged text free here = absurd free
free_judged number free here = mapped no_fault HasNumber (λ d v. datum_as number v ≡ d) Number here _ (λ n v is. ap Number is) (number_judged here)
free_judged optional_text free here = mapped no_fault HasText (λ d v. datum_as optional_text v ≡ d) OptionalText here (optional_text_from here) (λ t v is. ap OptionalText is) (optional_text_judged here)
free_judged texts free here = mapped no_fault HasTexts (λ d v. datum_as texts v ≡ d) Texts here (texts_from here) (λ ts v is. ap Texts is) (texts_judged here)
free_judged (digest n) free here = mapped no_fault (HasDigest n) (λ d v. datum_as (digest n) v ≡ d) Digest here (digest_from n here) (λ d v is. ap Digest is) (digest_judged n here)

text_each : (i : ℕ) (here : Position) → i < 3 → JudgesOne (asked i) (λ d v. datum_as text v ≡ d) here (datum_by text here)
text_each i here lt =
    mapped (asked i) IsText (λ d v. datum_as text v ≡ d) Text here (text_from here) (λ t v is. ap (λ (o : Option (List ℕ)). Text (unwrap_or o [])) is.0)
    (same_faults TextFault (asked i) IsText here (text_from here) (λ f p. (lt, p)) (λ f p. p.1) (text_judged here))

free_each : (i : ℕ) (k : Kind) (here : Position) → 3 ≤ i → IsFree k → JudgesOne (asked i) (λ d v. datum_as k v ≡ d) here (datum_by k here)
free_each i k here le free =
    same_faults no_fault (asked i) (λ d v. datum_as k v ≡ d) here (datum_by k here) (λ f p. absurd p) (λ f p. let lt : i < 3 = p.0 in omega arith) (free_judged k free here)

pub each : (i : ℕ) (here : Position) → i < 13 → JudgesOne (asked i) (λ d v. datum i v ≡ d) here (datum_from i here)
unfolding IsFree
each zero here lt = text_each 0 here (omega arith)
each (suc zero) here lt = text_each 1 here (omega arith)
each (suc (suc zero)) here lt = text_each 2 here (omega arith)
each (suc (suc (suc zero))) here lt = free_each 3 number here (omega arith) tt
each (suc (suc (suc (suc zero)))) here lt = free_each 4 texts here (omega arith) tt
each (suc (suc (suc (suc (suc zero))))) here lt = free_each 5 texts here (omega arith) tt
each (suc (suc (suc (suc (suc (suc zero)))))) here lt = free_each 6 optional_text here (omega arith) tt
each (suc (suc (suc (suc (suc (suc (suc zero))))))) here lt = free_each 7 (digest 16) here (omega arith) tt
each (suc (suc (suc (suc (suc (suc (suc (suc zero)))))))) here lt = free_each 8 (digest 32) here (omega arith) tt
each (suc (suc (suc (suc (suc (suc (suc (suc (suc zero))))))))) here lt = free_each 9 number here (omega arith) tt
each (suc (suc (suc (suc (suc (suc (suc (suc (suc (suc zero)))))))))) here lt = free_each 10 number here (omega arith) tt
each (suc (suc (suc (suc (suc (suc (suc (suc (suc (suc (suc zero))))))))))) here lt = free_each 11 optional_text here (omega arith) tt
each (suc (suc (suc (suc (suc (suc (suc (suc (suc (suc (suc (suc zero)))))))))))) here lt = free_each 12 optional_text here (omega arith) tt
each (suc (suc (suc (suc (suc (suc (suc (suc (suc (suc (suc (suc (suc i))))))))))))) here lt = absurd (omega arith)

not_asked : (i : ℕ) (here : Position) (f : FormatFault) → 13 ≤ i → asked i here f → ⊥
not_asked i here f le p = let lt : i < 3 = p.0 in omega arith

asked_behind : (i : ℕ) → StandBehind (asked i)
asked_behind i here f p = text_behind here f p.1

pub differ : is_distinct record_keys ≡ true
differ = refl

-- ---- what is asked, by the place of a key and by its name

required_place : (o : Option (List ℕ)) → place_of record_keys o < 3 → list_any (λ name. has_bytes name o) required_keys ≡ true
required_place o lt = go (has_bytes (codes "name") o) (has_bytes (codes "version") o) (has_bytes (codes "build") o) (place_of optional_keys o) lt
  where
    go : (a b c : Bool) (rest : ℕ) → cond a 0 (suc (cond b 0 (suc (cond c 0 (suc rest))))) < 3 → (a || (b || (c || false))) ≡ true
    go true b c rest lt = refl
    go false true c rest lt = refl
    go false false true rest lt = refl
    go false false false rest lt = absurd (omega arith)

place_required : (o : Option (List ℕ)) → list_any (λ name. has_bytes name o) required_keys ≡ true → place_of record_keys o < 3
place_required o e = go (has_bytes (codes "name") o) (has_bytes (codes "version") o) (has_bytes (codes "build") o) (place_of optional_keys o) e
  where
    go : (a b c : Bool) (rest : ℕ) → (a || (b || (c || false))) ≡ true → cond a 0 (suc (cond b 0 (suc (cond c 0 (suc rest))))) < 3
    go true b c rest e = omega arith
    go false true c rest e = omega arith
    go false false true rest e = omega arith
    go false false false rest e = absurd (cc)

abbrev Table : MapRules
Table = table_rules record_keys differ required asked datum datum_from each not_asked asked_behind

table_within : RulesWithin Table record_rules
table_within = record { key = λ front here f p. p; value = λ key here f p. (required_place (str_of key) p.0, p.1); end = λ front here f p. p }

within_table : RulesWithin record_rules Table
within_table = record { key = λ front here f p. p; value = λ key here f p. (place_required (str_of key) p.0, p.1); end = λ front here f p. p }

-- ---- what was read, as the fields of the value

text_said : (o : Option Value) → text_or_none (datum_at (datum_as text) o) ≡ unwrap_or (said str_of o) []
text_said (Some v) = refl
text_said None = refl

number_said : (o : Option Value) → number_in (datum_at (datum_as number) o) ≡ said number_of o
number_said (Some v) = refl
number_said None = refl

optional_text_said : (o : Option Value) → optional_text_in (datum_at (datum_as optional_text) o) ≡ said text_of o
optional_text_said (Some v) = refl
optional_text_said None = refl

digest_said : (n : ℕ) (o : Option Value) → digest_in (datum_at (datum_as (digest n)) o) ≡ said (digest_of n) o
digest_said n (Some v) = refl
digest_said n None = refl

texts_said : (o : Option Value) → texts_in (datum_at (datum_as texts) o) ≡ unwrap_or (said texts_of o) []
texts_said (Some v) = go (texts_of v)
  where
    go : (o : Option (List (List ℕ))) → texts_in (Some (Texts o)) ≡ unwrap_or o []
    go (Some ts) = refl
    go None = refl
texts_said None = refl

fields_said : (ps : Pairs) → fields_from (data_of datum 0 record_keys ps) ≡ fields_in ps
fields_said ps = λ i. record {
  name = text_said (value_at (codes "name") ps) i;
  version = text_said (value_at (codes "version") ps) i;
  build = text_said (value_at (codes "build") ps) i;
  build_number = unwrap_or (number_said (value_at (codes "build_number") ps) i) 0;
  depends = texts_said (value_at (codes "depends") ps) i;
  constrains = texts_said (value_at (codes "constrains") ps) i;
  subdir = optional_text_said (value_at (codes "subdir") ps) i;
  md5 = digest_said 16 (value_at (codes "md5") ps) i;
  sha256 = digest_said 32 (value_at (codes "sha256") ps) i;
  size = number_said (value_at (codes "size") ps) i;
  timestamp = number_said (value_at (codes "timestamp") ps) i;
  license = optional_text_said (value_at (codes "license") ps) i;
  noarch = optional_text_said (value_at (codes "noarch") ps) i;
}

-- ---- the record

-- the fields are those that the value says
abbrev pub IsRecord : Fields → Value → Type 0
IsRecord fields v = fields ≡ fields_of v

pub record_is : (here : Position) → record_from here ≡ turned fields_from (known_map_from record_keys required datum_from here)
unfolding record_from end_from
record_is here = known_map_turned record_keys required datum_from fields_from here

pub record_judged : (here : Position) → JudgesOne RecordFault IsRecord here (record_from here)
record_judged here =
    subst (λ (r : Read Fields). JudgesOne RecordFault IsRecord here r) (sym (record_is here))
    (mapped RecordFault (λ s v. KnowsFrom datum 0 record_keys s (pairs_of v)) IsRecord fields_from here (known_map_from record_keys required datum_from here)
    (λ s v k. ap fields_from (knows_is datum 0 record_keys s (pairs_of v) k) ∙ fields_said (pairs_of v))
    (same_faults (MapFault Table) RecordFault (λ s v. KnowsFrom datum 0 record_keys s (pairs_of v)) here (known_map_from record_keys required datum_from here)
    (map_within Table record_rules table_within here) (map_within record_rules Table within_table here)
    (table_judged record_keys differ required asked datum datum_from each not_asked asked_behind here)))

-- the faults of a record stand where it begins, or behind
pub record_behind : StandBehind RecordFault
record_behind here f p =
    map_behind Table (λ n. table_pairs_behind record_keys differ required asked datum datum_from each not_asked asked_behind [] n) here f (map_within record_rules Table within_table here f p)

-- ---- what a call that reads a record gave

pub record_found : (old new : Position) (r : Fields) → record_from old ≡ Ok (r, new) → RecordAt old r new
record_found old new r e =
    let j : Reads RecordFault IsRecord old r new = judged_reads RecordFault IsRecord old (record_from old) (record_judged old) r new e in
    record { value = j.value; lies = j.lies; says = j.means; no_fault = j.none }

pub record_first : (old : Position) (f : FormatFault) → record_from old ≡ Err f → IsFirstFault (WithBreaks RecordFault old) f
record_first old f e = refuses_first RecordFault old f (judged_refuses RecordFault IsRecord old (record_from old) (record_judged old) f e)

-- a record that stands there is what is read
pub record_at_read : (old there : Position) (r : Fields) → RecordAt old r there → record_from old ≡ Ok (r, there)
record_at_read old there r a = go (record_from old) refl (record_judged old)
  where
    go : (s : Read Fields) → record_from old ≡ s → JudgesOne RecordFault IsRecord old s → record_from old ≡ Ok (r, there)
    go (Ok x) e j =
        let same : SameLie j.value a.value x.1 there = lies_same j.value a.value old x.1 there j.lies a.lies in
        let fields : x.0 ≡ r = j.means ∙ ap fields_of same.value ∙ sym a.says in
        e ∙ ap (λ (f : Fields). Ok (f, x.1)) fields ∙ ap (λ (q : Position). Ok (r, q)) same.place
    go (Err f) e j = absurd (elim j.stands [ inl p ↦ a.no_fault f p | inr b ↦ lies_whole old there a.value f a.lies b ])

-- the first fault is read where it stands
pub first_at_read : (old : Position) (f : FormatFault) → IsFirstFault (WithBreaks RecordFault old) f → record_from old ≡ Err f
first_at_read old f first = go (record_from old) refl
  where
    go : (s : Read Fields) → record_from old ≡ s → record_from old ≡ Err f
    go (Ok x) e =
        let a : RecordAt old x.0 x.1 = record_found old x.1 x.0 e in
        absurd (elim first.stands [ inl p ↦ a.no_fault f p | inr b ↦ lies_whole old x.1 a.value f a.lies b ])
    go (Err g) e = e ∙ ap Err (one_first (WithBreaks RecordFault old) g f (record_first old g e) first)
