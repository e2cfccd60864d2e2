-- What a value of JSON says as a package record (docs/FORMATS.md, "repodata.json").
use Rattle.std.specs.Prelude.{ℕ, List, [], ◌∷◌, Option, Some, None, unwrap_or, codes, option_map, option_and_then}
use Rattle.std.specs.Result.{result_ok}
use Rattle.hex.specs.Hex.{decode_sized}
use Rattle.serde_json.specs.Data.{Data, Items, no_items, item}
use Rattle.serde_json.specs.Find.{get, as_str, as_number, as_u64, as_array}
use Rattle.conda_record.specs.Record.{Fields}

-- ---- the kinds of values

-- a whole number: one from 0 to 2^64 - 1 without fraction and exponent
abbrev pub number_of : Data → Option ℕ
number_of d = option_and_then as_u64 (as_number d)

-- a text in front of some texts, if all of them are there
abbrev pub both : Option (List ℕ) → Option (List (List ℕ)) → Option (List (List ℕ))
both (Some t) (Some ts) = Some (t ∷ ts)
both (Some t) None = None
both None ts = None

-- the texts of some elements, if each is one
abbrev pub texts_in : Items → Option (List (List ℕ))
texts_in no_items = Some []
texts_in (item d ds) = both (as_str d) (texts_in ds)

-- the texts of an array of texts
abbrev pub texts_of : Data → Option (List (List ℕ))
texts_of d = option_and_then texts_in (as_array d)

-- the digest of n bytes whose hexadecimal digits, of either case, a text is
abbrev pub digest_of : ℕ → Data → Option (List ℕ)
digest_of n d = option_and_then (λ text. result_ok (decode_sized text n)) (as_str d)

-- ---- the record

-- what the member of this key says, if the value is an object that has it and it is of that kind
abbrev pub said_at : {X : Type 0} → (Data → Option X) → List ℕ → Data → Option X
said_at says key d = option_and_then says (get key d)

-- the fields of a record with these required texts; an optional key of another kind counts as missing
abbrev pub fields_with : List ℕ → List ℕ → List ℕ → Data → Fields
fields_with name version build d = record {
  name = name;
  version = version;
  build = build;
  build_number = unwrap_or (said_at number_of (codes "build_number") d) 0;
  depends = unwrap_or (said_at texts_of (codes "depends") d) [];
  constrains = unwrap_or (said_at texts_of (codes "constrains") d) [];
  subdir = said_at as_str (codes "subdir") d;
  md5 = said_at (digest_of 16) (codes "md5") d;
  sha256 = said_at (digest_of 32) (codes "sha256") d;
  size = said_at number_of (codes "size") d;
  timestamp = said_at number_of (codes "timestamp") d;
  license = said_at as_str (codes "license") d;
  noarch = said_at as_str (codes "noarch") d;
}

-- the fields that a value says as a record, if it is an object whose required members are texts
unfoldable pub fields_of_json : Data → Option Fields
fields_of_json d =
    option_and_then (λ name.
    option_and_then (λ version.
    option_map (λ build. fields_with name version build d)
    (said_at as_str (codes "build") d))
    (said_at as_str (codes "version") d))
    (said_at as_str (codes "name") d)
