-- Reading a record from a position: its known keys in the order of `record_keys`, and how the value of each is read.
use Rattle.std.specs.Prelude.{ℕ, List, [], ◌∷◌, Option, Some, None, unwrap_or, Ok, slice_index_or}
use Rattle.gateway_words.specs.Places.{Position}
use Rattle.gateway_words.specs.Reading.{◌>>=◌}
use Rattle.mp_codec.specs.declared.fault.FormatFault.{FormatFault}
use Rattle.mp_codec.specs.Maps.{Read, entries_from, map_from, text_from, number_from, str_from, unread, known_key_from, known_value_from, known_end_from}
use Rattle.conda_record.specs.declared.refusal.RecordRefusal.{RecordRefusal}
use Rattle.conda_record.specs.declared.refusal.RecordRefusal.TheVariants as refusal
use Rattle.conda_record.specs.Texts.{text_in, texts_from}
use Rattle.conda_record.specs.Digests.{digest_from}
use Rattle.conda_record.specs.Record.{Fields, record_keys}

-- the fault of a refusal, unless memory ran out
abbrev pub fault_of : RecordRefusal → Option FormatFault
fault_of (refusal.Fault f) = Some f
fault_of refusal.Memory = None

-- ---- the values of the known keys

-- how the value of a key is read
pub data Kind : Type 0 where
  text : Kind
  number : Kind
  optional_text : Kind
  texts : Kind
  digest : ℕ → Kind

-- what was read behind a key
pub data Datum : Type 0 where
  Text : List ℕ → Datum
  Number : Option ℕ → Datum
  OptionalText : Option (List ℕ) → Datum
  Texts : Option (List (List ℕ)) → Datum
  Digest : Option (List ℕ) → Datum

-- the kinds of the known keys, in their order
abbrev pub kinds : List Kind
kinds =
    text ∷ text ∷ text ∷ number ∷ texts ∷ texts ∷ optional_text ∷ digest 16 ∷ digest 32
    ∷ number ∷ number ∷ optional_text ∷ optional_text ∷ []

-- how many of the known keys are required
abbrev pub required : ℕ
required = 3

-- a text, or none of a value of another kind
unfoldable pub optional_text_from : Position → Read (Option (List ℕ))
optional_text_from here = str_from here >>= λ s. Ok (text_in s.0, s.1)

-- a value of this kind
abbrev pub datum_by : Kind → Position → Read Datum
datum_by text here = text_from here >>= λ t. Ok (Text t.0, t.1)
datum_by number here = number_from here >>= λ n. Ok (Number n.0, n.1)
datum_by optional_text here = optional_text_from here >>= λ t. Ok (OptionalText t.0, t.1)
datum_by texts here = texts_from here >>= λ ts. Ok (Texts ts.0, ts.1)
datum_by (digest n) here = digest_from n here >>= λ d. Ok (Digest d.0, d.1)

-- the value of the known key at this place
abbrev pub datum_from : ℕ → Position → Read Datum
datum_from i here = datum_by (slice_index_or kinds i number) here

-- ---- the record of what was read

-- the text that was read, or the empty one
abbrev pub text_or_none : Option Datum → List ℕ
text_or_none (Some (Text t)) = t
text_or_none _ = []

-- the number that was read, if there is one
abbrev pub number_in : Option Datum → Option ℕ
number_in (Some (Number n)) = n
number_in _ = None

-- the text that was read, if there is one
abbrev pub optional_text_in : Option Datum → Option (List ℕ)
optional_text_in (Some (OptionalText t)) = t
optional_text_in _ = None

-- the texts that were read, or none
abbrev pub texts_in : Option Datum → List (List ℕ)
texts_in (Some (Texts (Some ts))) = ts
texts_in _ = []

-- the digest that was read, if there is one
abbrev pub digest_in : Option Datum → Option (List ℕ)
digest_in (Some (Digest d)) = d
digest_in _ = None

-- the fields of a record, by the places of the keys
abbrev pub fields_from : List (Option Datum) → Fields
fields_from s = record {
  name = text_or_none (slice_index_or s 0 None);
  version = text_or_none (slice_index_or s 1 None);
  build = text_or_none (slice_index_or s 2 None);
  build_number = unwrap_or (number_in (slice_index_or s 3 None)) 0;
  depends = texts_in (slice_index_or s 4 None);
  constrains = texts_in (slice_index_or s 5 None);
  subdir = optional_text_in (slice_index_or s 6 None);
  md5 = digest_in (slice_index_or s 7 None);
  sha256 = digest_in (slice_index_or s 8 None);
  size = number_in (slice_index_or s 9 None);
  timestamp = number_in (slice_index_or s 10 None);
  license = optional_text_in (slice_index_or s 11 None);
  noarch = optional_text_in (slice_index_or s 12 None);
}

-- the end of a record, which has the required keys
unfoldable pub end_from : List (Option Datum) → Position → Read Fields
end_from s here = known_end_from required s here >>= λ s. Ok (fields_from s.0, s.1)

-- so many pairs of a record, behind what was read so far, and its end
abbrev pub pairs_from : ℕ → List (Option Datum) → Position → Read Fields
pairs_from = entries_from (known_key_from record_keys) (known_value_from record_keys datum_from) end_from

-- the record that stands here
unfoldable pub record_from : Position → Read Fields
record_from here = map_from (λ n there. pairs_from n (unread record_keys) there) here
