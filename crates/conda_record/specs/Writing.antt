-- The bytes of a record that is written, and which records can be (docs/FORMATS.md, "Package records").
use Rattle.std.specs.Prelude.{◌≡◌, ℕ, ◌<◌, ◌^◌, Bool, true, nat_lt, ◌&&◌, List, [], ◌∷◌, ◌++◌, length, Option, Some, None, IfSome, codes, if◌then◌else◌}
use Rattle.std.specs.Option.{option_map}
use Rattle.std.specs.List.{flat_map, list_all, All}
use Rattle.std.specs.Str.{is_utf8}
use Rattle.gateway_words.specs.Places.{Position, Between}
use Rattle.mp_codec.specs.Writing.{uint_bytes, str_bytes, bin_bytes, array_head, pair_bytes, value_count, known_map_bytes}
use Rattle.conda_record.specs.Record.{Fields, record_keys, RecordAt}

-- ---- the bytes

-- an array of texts
abbrev pub texts_bytes : List (List ℕ) → List ℕ
texts_bytes texts = array_head (length texts) ++ flat_map str_bytes texts

-- an array of texts, which is left out where it is empty
abbrev pub texts_if_any : List (List ℕ) → Option (List ℕ)
texts_if_any [] = None
texts_if_any (text ∷ texts) = Some (texts_bytes (text ∷ texts))

-- what is written behind each key, in the order of the keys, if it is written
abbrev pub values_of : Fields → List (Option (List ℕ))
values_of f =
    Some (str_bytes f.name) ∷ Some (str_bytes f.version) ∷ Some (str_bytes f.build) ∷ Some (uint_bytes f.build_number)
    ∷ Some (texts_bytes f.depends) ∷ texts_if_any f.constrains ∷ option_map str_bytes f.subdir
    ∷ option_map bin_bytes f.md5 ∷ option_map bin_bytes f.sha256 ∷ option_map uint_bytes f.size
    ∷ option_map uint_bytes f.timestamp ∷ option_map str_bytes f.license ∷ option_map str_bytes f.noarch ∷ []

-- the bytes of the record of these fields: a map of the keys that are written, in their order
unfoldable pub record_bytes : Fields → List ℕ
record_bytes f = known_map_bytes record_keys (values_of f)

-- ---- which records can be written, and what is read of them

-- a list whose length a head of MessagePack can say
abbrev pub IsShort : {X : Type 0} → List X → Type 0
IsShort xs = length xs < 2 ^ 32

-- a list of texts whose length and whose texts' lengths a head can say
pub record AreShort (texts : List (List ℕ)) : Type 0 where
  pub many : IsShort texts
  pub each : All IsShort texts

-- the lengths of all lists and texts of a record can be said
pub record IsWritable (f : Fields) : Type 0 where
  pub name_short : IsShort f.name
  pub version_short : IsShort f.version
  pub build_short : IsShort f.build
  pub depends_short : AreShort f.depends
  pub constrains_short : AreShort f.constrains
  pub subdir_short : IfSome f.subdir IsShort
  pub license_short : IfSome f.license IsShort
  pub noarch_short : IfSome f.noarch IsShort

-- bytes that are text
abbrev pub AreText : List ℕ → Type 0
AreText bytes = is_utf8 bytes ≡ true

-- the fields are what a record's fields are: UTF-8 where they are texts, numbers of 64 bits, and digests of 16 and 32 bytes
pub record AreFields (f : Fields) : Type 0 where
  pub name_text : AreText f.name
  pub version_text : AreText f.version
  pub build_text : AreText f.build
  pub build_number_fits : f.build_number < 2 ^ 64
  pub depends_texts : All AreText f.depends
  pub constrains_texts : All AreText f.constrains
  pub subdir_text : IfSome f.subdir AreText
  pub md5_length : IfSome f.md5 (λ digest. length digest ≡ 16)
  pub sha256_length : IfSome f.sha256 (λ digest. length digest ≡ 32)
  pub size_fits : IfSome f.size (λ n. n < 2 ^ 64)
  pub timestamp_fits : IfSome f.timestamp (λ n. n < 2 ^ 64)
  pub license_text : IfSome f.license AreText
  pub noarch_text : IfSome f.noarch AreText

-- where the bytes of the record of these fields stand, this record stands, whatever follows it
abbrev pub IsReadAgain : Fields → Type 0
IsReadAgain f = (here there : Position) → Between (record_bytes f) here there → RecordAt here f there

-- ---- which records can be written, as a test

-- a head of MessagePack can say the length of this list
abbrev pub can_be_said : {X : Type 0} → List X → Bool
can_be_said xs = nat_lt (length xs) (2 ^ 32)

-- the same, if there is a text
abbrev pub can_be_said_if : Option (List ℕ) → Bool
can_be_said_if (Some text) = can_be_said text
can_be_said_if None = true

-- heads can say the length of this list and of each of its texts
abbrev pub can_all_be_said : List (List ℕ) → Bool
can_all_be_said texts = can_be_said texts && list_all can_be_said texts

-- the required texts
abbrev pub are_required_short : Fields → Bool
are_required_short f = can_be_said f.name && (can_be_said f.version && can_be_said f.build)

-- the optional texts
abbrev pub are_optional_short : Fields → Bool
are_optional_short f = can_be_said_if f.subdir && (can_be_said_if f.license && can_be_said_if f.noarch)

-- all texts that are no elements of a list
abbrev pub are_texts_short : Fields → Bool
are_texts_short f = are_required_short f && are_optional_short f

-- the lists
abbrev pub are_lists_short : Fields → Bool
are_lists_short f = can_all_be_said f.depends && can_all_be_said f.constrains

-- ---- a record in three parts, as it is written

-- 1 where it holds, else 0
abbrev pub count_if : Bool → ℕ
count_if holds = if holds then 1 else 0

-- a key and a text
unfoldable pub text_pair : List ℕ → List ℕ → List ℕ
text_pair key text = pair_bytes key (Some (str_bytes text))

-- a key and a number
unfoldable pub number_pair : List ℕ → ℕ → List ℕ
number_pair key n = pair_bytes key (Some (uint_bytes n))

-- a key and a list of texts
unfoldable pub texts_pair : List ℕ → List (List ℕ) → List ℕ
texts_pair key texts = pair_bytes key (Some (texts_bytes texts))

-- the pairs that are always written
unfoldable pub first_pairs : Fields → List ℕ
first_pairs f =
    text_pair (codes "name") f.name ++ (text_pair (codes "version") f.version ++ (text_pair (codes "build") f.build
    ++ (number_pair (codes "build_number") f.build_number ++ texts_pair (codes "depends") f.depends)))

-- the pairs from constrains to sha256
unfoldable pub middle_pairs : Fields → List ℕ
middle_pairs f =
    pair_bytes (codes "constrains") (texts_if_any f.constrains) ++ (pair_bytes (codes "subdir") (option_map str_bytes f.subdir)
    ++ (pair_bytes (codes "md5") (option_map bin_bytes f.md5) ++ pair_bytes (codes "sha256") (option_map bin_bytes f.sha256)))

-- the pairs from size on
unfoldable pub last_pairs : Fields → List ℕ
last_pairs f =
    pair_bytes (codes "size") (option_map uint_bytes f.size) ++ (pair_bytes (codes "timestamp") (option_map uint_bytes f.timestamp)
    ++ (pair_bytes (codes "license") (option_map str_bytes f.license) ++ pair_bytes (codes "noarch") (option_map str_bytes f.noarch)))

-- how many keys are written
unfoldable pub key_count : Fields → ℕ
key_count f = value_count (values_of f)

-- the three required texts are text
pub record AreRequired (f : Fields) : Type 0 where
  pub name_text : AreText f.name
  pub version_text : AreText f.version
  pub build_text : AreText f.build

-- the other fields of the first pairs are those of a record
pub record AreFirst (f : Fields) : Type 0 where
  pub build_number_fits : f.build_number < 2 ^ 64
  pub depends_texts : All AreText f.depends

-- the fields of the middle pairs are those of a record
pub record AreMiddle (f : Fields) : Type 0 where
  pub constrains_texts : All AreText f.constrains
  pub subdir_text : IfSome f.subdir AreText
  pub md5_length : IfSome f.md5 (λ digest. length digest ≡ 16)
  pub sha256_length : IfSome f.sha256 (λ digest. length digest ≡ 32)

-- the fields of the last pairs are those of a record
pub record AreLast (f : Fields) : Type 0 where
  pub size_fits : IfSome f.size (λ n. n < 2 ^ 64)
  pub timestamp_fits : IfSome f.timestamp (λ n. n < 2 ^ 64)
  pub license_text : IfSome f.license AreText
  pub noarch_text : IfSome f.noarch AreText
