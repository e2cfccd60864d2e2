-- What was read so far of a record, by the places of its keys.
use Rattle.std.specs.Prelude.{ℕ, Bool, true, false, List, [], ◌∷◌, Option, Some, None}
use Rattle.std.specs.declared.alloc.Global.{Global}
use Rattle.std.specs.declared.vec.Vec.{Vec}
use Rattle.mp_codec.specs.declared.span.Span.{Span}
use Rattle.conda_record.specs.declared.reading.Key.{Key}
use Rattle.conda_record.specs.declared.reading.Key.TheVariants as key
use Rattle.conda_record.specs.declared.reading.Found.{Found}
use Rattle.conda_record.specs.Placing.{Place, TextAt, NumberIs, OptionalTextAt, TextsAt, DigestAt}

-- the place of a key among the known ones, or their number
abbrev pub place : Key → ℕ
place key.Name = 0
place key.Version = 1
place key.Build = 2
place key.BuildNumber = 3
place key.Depends = 4
place key.Constrains = 5
place key.Subdir = 6
place key.Md5 = 7
place key.Sha256 = 8
place key.Size = 9
place key.Timestamp = 10
place key.License = 11
place key.Noarch = 12
place key.Other = 13

-- something that was read, as what is kept of a key
abbrev pub kept : {X : Type 0} → (X → Place) → Option X → Option Place
kept place (Some x) = Some (place x)
kept place None = None

-- the same of a key whose value may be of another kind, where `other` tells that it was met with one
abbrev pub met : {X : Type 0} → (Option X → Place) → Option X → Bool → Option Place
met place (Some x) other = Some (place (Some x))
met place None true = Some (place None)
met place None false = None

-- the spans of a list that was read, if it is one
abbrev pub spans_read : Option (Vec Span Global) → Option (List Span)
spans_read (Some v) = Some v.items
spans_read None = None

-- the list that was read, as what is kept of a key
abbrev pub list_read : Option (Vec Span Global) → Place
list_read list = TextsAt (spans_read list)

-- what was read, by the places of the keys
abbrev pub known : Found → List (Option Place)
known f =
    kept TextAt f.name ∷ kept TextAt f.version ∷ kept TextAt f.build
    ∷ met NumberIs f.build_number f.others.build_number ∷ met list_read f.depends f.others.depends
    ∷ met list_read f.constrains f.others.constrains ∷ met OptionalTextAt f.subdir f.others.subdir
    ∷ met DigestAt f.md5 f.others.md5 ∷ met DigestAt f.sha256 f.others.sha256
    ∷ met NumberIs f.size f.others.size ∷ met NumberIs f.timestamp f.others.timestamp
    ∷ met OptionalTextAt f.license f.others.license ∷ met OptionalTextAt f.noarch f.others.noarch ∷ []
