-- Package names, kept in lower case (docs/FORMATS.md, "Names").
use Rattle.std.specs.Prelude.{◌≡◌, ℕ, ◌==◌, ◌||◌, not, Bool, List, [], ◌∷◌, map, position, Option, Some, None, Result, Ok, Err}
use Rattle.std.specs.Char.{is_ascii_alphanumeric, to_ascii_lowercase}
use Rattle.gateway_words.specs.Ascii.{dash, dot, underscore}
use Rattle.conda_name.specs.declared.name.NameRefusal.{NameRefusal}
use Rattle.conda_name.specs.declared.name.NameRefusal.TheVariants as refusal

-- a byte of a name: a letter, a digit, `_`, `-` or `.`
abbrev pub is_name_byte : ℕ → Bool
is_name_byte b = is_ascii_alphanumeric b || b == underscore || b == dash || b == dot

-- the text with each letter in lower case
abbrev pub lower_case : List ℕ → List ℕ
lower_case text = map to_ascii_lowercase text

-- the place of the first byte that no name has
abbrev pub first_wrong : List ℕ → Option ℕ
first_wrong text = position (λ b. not (is_name_byte b)) text

-- the name of a text whose first wrong byte is known
abbrev pub name_unless : List ℕ → Option ℕ → Result (List ℕ) NameRefusal
name_unless text None = Ok (lower_case text)
name_unless text (Some at) = Err (refusal.Char at)

-- what a text reads as: a name, which is its lower case, or why it is none
abbrev pub name_of : List ℕ → Result (List ℕ) NameRefusal
name_of [] = Err refusal.Empty
name_of (b ∷ rest) = name_unless (b ∷ rest) (first_wrong (b ∷ rest))

-- these bytes are a name: one that is kept reads as itself
abbrev pub IsName : List ℕ → Type 0
IsName name = name_of name ≡ Ok name

-- the fault of a refusal, which has none where memory ran out
abbrev pub fault_of : NameRefusal → Option NameRefusal
fault_of refusal.Empty = Some refusal.Empty
fault_of (refusal.Char at) = Some (refusal.Char at)
fault_of refusal.Memory = None

-- the number of a fault in print, and none where memory ran out
abbrev pub name_fault_number : NameRefusal → Option ℕ
name_fault_number refusal.Empty = Some 1
name_fault_number (refusal.Char at) = Some 2
name_fault_number refusal.Memory = None
