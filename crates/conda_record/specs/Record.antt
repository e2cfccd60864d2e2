-- What a package record says, and what may be wrong with one (CEP 16, "package records").
use Rattle.std.specs.Prelude.{◌≡◌, ℕ, true, List, [], ◌∷◌, ◌++◌, Option, Some, None, unwrap_or, codes}
use Rattle.gateway_words.specs.Places.{Position}
use Rattle.mp_codec.specs.declared.fault.FormatFault.{FormatFault}
use Rattle.mp_codec.specs.Value.{Value, Pairs, pairs_of, number_of, str_of}
use Rattle.mp_codec.specs.Spelling.{Lies}
use Rattle.mp_codec.specs.Fault.{Faults, MapRules, MapFault, TextFault}
use Rattle.mp_codec.specs.Keys.{is_one_of, value_at, RepeatedKey, MissingKey}
use Rattle.conda_record.specs.Texts.{text_of, texts_of}
use Rattle.conda_record.specs.Digests.{digest_of}

-- the fields of a package record
pub record Fields : Type 0 where
  pub name : List ℕ
  pub version : List ℕ
  pub build : List ℕ
  pub build_number : ℕ
  pub depends : List (List ℕ)
  pub constrains : List (List ℕ)
  pub subdir : Option (List ℕ)
  pub md5 : Option (List ℕ)
  pub sha256 : Option (List ℕ)
  pub size : Option ℕ
  pub timestamp : Option ℕ
  pub license : Option (List ℕ)
  pub noarch : Option (List ℕ)

-- the keys that a record must have
abbrev pub required_keys : List (List ℕ)
required_keys = codes "name" ∷ codes "version" ∷ codes "build" ∷ []

-- the keys that a record may have
abbrev pub optional_keys : List (List ℕ)
optional_keys =
    codes "build_number" ∷ codes "depends" ∷ codes "constrains" ∷ codes "subdir" ∷ codes "md5" ∷ codes "sha256"
    ∷ codes "size" ∷ codes "timestamp" ∷ codes "license" ∷ codes "noarch" ∷ []

-- the keys of a record that are read
abbrev pub record_keys : List (List ℕ)
record_keys = required_keys ++ optional_keys

-- ---- what a record says

-- what the value behind a key says, if the key is there and its value is of that kind
abbrev pub said : {X : Type 0} → (Value → Option X) → Option Value → Option X
said says (Some v) = says v
said says None = None

-- what the value behind the key of this name says
abbrev pub said_at : {X : Type 0} → (Value → Option X) → List ℕ → Pairs → Option X
said_at says name ps = said says (value_at name ps)

-- what the pairs of a record say, by their known keys
abbrev pub fields_in : Pairs → Fields
fields_in ps = record {
  name = unwrap_or (said_at str_of (codes "name") ps) [];
  version = unwrap_or (said_at str_of (codes "version") ps) [];
  build = unwrap_or (said_at str_of (codes "build") ps) [];
  build_number = unwrap_or (said_at number_of (codes "build_number") ps) 0;
  depends = unwrap_or (said_at texts_of (codes "depends") ps) [];
  constrains = unwrap_or (said_at texts_of (codes "constrains") ps) [];
  subdir = said_at text_of (codes "subdir") ps;
  md5 = said_at (digest_of 16) (codes "md5") ps;
  sha256 = said_at (digest_of 32) (codes "sha256") ps;
  size = said_at number_of (codes "size") ps;
  timestamp = said_at number_of (codes "timestamp") ps;
  license = said_at text_of (codes "license") ps;
  noarch = said_at text_of (codes "noarch") ps;
}

-- what a value says as a record
abbrev pub fields_of : Value → Fields
fields_of v = fields_in (pairs_of v)

-- ---- what may be wrong with a record

-- a record is a map with no known key twice and without none of the required ones, whose values are texts
abbrev pub record_rules : MapRules
record_rules = record {
  key = λ front. RepeatedKey record_keys front;
  value = λ key here f. (is_one_of required_keys key ≡ true) × TextFault here f;
  end = λ front. MissingKey required_keys front;
}

-- what may be wrong with a record
abbrev pub RecordFault : Faults
RecordFault = MapFault record_rules

-- a record with these fields stands here, nothing is wrong with it, and there is the position behind it
pub record RecordAt (here : Position) (fields : Fields) (there : Position) : Type 0 where
  pub value : Value
  pub lies : Lies value here there
  pub says : fields ≡ fields_of value
  pub no_fault : (f : FormatFault) → RecordFault here f → ⊥
