-- What a text reads as a version, and why it is refused (docs/FORMATS.md, "Versions").
use Rattle.std.specs.Prelude.{ℕ, ◌+◌, ◌-◌, ◌^◌, ◌==◌, ◌&&◌, ◌||◌, nat_lt, not, Bool, false, List, [], ◌∷◌, count_by, length, position, Option, Some, None, Result, Ok, Err, if◌then◌else◌}
use Rattle.std.specs.Char.{is_ascii_digit, is_ascii_alphanumeric}
use Rattle.std.specs.List.{list_any}
use Rattle.gateway_words.specs.Ascii.{dash, dot, exclamation_mark, plus_sign, underscore}
use Rattle.byte_text.specs.Text.{cut_at, drop_blanks, is_nil, skip_blanks}
use Rattle.conda_version.specs.Version.{Run, number, Value, components, is_underscore, lists, runs}
use Rattle.byte_text.specs.Decimal.{with_digit}
use Rattle.conda_version.specs.declared.fault.VersionFault.{VersionFault}
use Rattle.conda_version.specs.declared.fault.VersionFault.TheVariants as fault

-- ---- the parts of a text

-- the three parts of a text: before its first `!`, from there to the next `+`, and behind that
pub record Parts : Type 0 where
  pub epoch : Option (List ℕ)
  pub main : List ℕ
  pub local : Option (List ℕ)

-- a main part and the local part behind its `+`, where there is one
abbrev pub parts_of : Option (List ℕ) → List ℕ → Option (List ℕ × List ℕ) → Parts
parts_of epoch body None = record { epoch = epoch; main = body; local = None }
parts_of epoch body (Some p) = record { epoch = epoch; main = p.0; local = Some p.1 }

-- the parts with this epoch in front of them
abbrev pub parts_behind : Option (List ℕ) → List ℕ → Parts
parts_behind epoch body = parts_of epoch body (cut_at plus_sign body)

-- the parts of a text that is cut at its first `!`, or has none
abbrev pub parts_at : List ℕ → Option (List ℕ × List ℕ) → Parts
parts_at text None = parts_behind None text
parts_at text (Some p) = parts_behind (Some p.0) p.1

-- the parts of a text
abbrev pub parts : List ℕ → Parts
parts text = parts_at text (cut_at exclamation_mark text)

-- a test of a part that may be missing
abbrev pub if_there : (List ℕ → Bool) → Option (List ℕ) → Bool
if_there test None = false
if_there test (Some part) = test part

-- ---- Char

-- whether a `_` stands in the text
abbrev pub has_underscore : List ℕ → Bool
has_underscore text = list_any (λ b. b == underscore) text

-- whether a version can have the byte: a letter, a digit, `.`, `_`, `+`, `!` or `-`
abbrev pub is_version_byte : ℕ → Bool
is_version_byte b =
    is_ascii_alphanumeric b || b == dot || b == underscore || b == plus_sign || b == exclamation_mark || b == dash

-- whether a byte is refused: in a text that has a `_`, also each `-`
abbrev pub is_wrong : Bool → ℕ → Bool
is_wrong with_underscore b = not (is_version_byte b) || (b == dash && with_underscore)

-- the place of the first byte that is refused
abbrev pub first_wrong : List ℕ → Option ℕ
first_wrong text = position (is_wrong (has_underscore text)) text

-- ---- Twice

-- whether a byte stands twice in a text
abbrev pub has_two : ℕ → List ℕ → Bool
has_two mark text = nat_lt 1 (count_by (λ b. b == mark) text)

-- whether a `+` stands in the part
abbrev pub has_plus : List ℕ → Bool
has_plus part = list_any (λ b. b == plus_sign) part

-- two `!`, two `+`, or a `+` before the `!`
abbrev pub is_twice : List ℕ → Parts → Bool
is_twice text p = has_two exclamation_mark text || has_two plus_sign text || if_there has_plus p.epoch

-- ---- Epoch

-- whether a part isn't one or more digits
abbrev pub is_no_number : List ℕ → Bool
is_no_number part = is_nil part || list_any (λ b. not (is_ascii_digit b)) part

-- ---- EmptyPart

-- whether a component has no bytes, as the one of an empty part has none
abbrev pub has_empty : List ℕ → Bool
has_empty part = list_any is_nil (components part)

-- whether the last byte is a `_`
abbrev pub ends_in_underscore : List ℕ → Bool
ends_in_underscore [] = false
ends_in_underscore (b ∷ []) = is_underscore b
ends_in_underscore (b ∷ c ∷ rest) = ends_in_underscore (c ∷ rest)

-- whether a local part is empty, has an empty component, or ends in a `_`, behind which one would be
abbrev pub has_empty_local : List ℕ → Bool
has_empty_local part = has_empty part || ends_in_underscore part

-- whether the main part or the local part has a component with nothing in it
abbrev pub has_empty_part : Parts → Bool
has_empty_part p = has_empty p.main || if_there has_empty_local p.local

-- ---- Wide

-- no number is above 2 ^ 128 - 1 on the way, from the one that is open on
abbrev pub narrow_from : ℕ → List ℕ → Bool
narrow_from n [] = nat_lt n (2 ^ 128)
narrow_from n (b ∷ rest) = nat_lt n (2 ^ 128) && narrow_from (if is_ascii_digit b then with_digit n b else 0) rest

-- whether each run of digits of a part is at most 2 ^ 128 - 1
abbrev pub is_narrow : List ℕ → Bool
is_narrow part = narrow_from 0 part

-- whether a run of digits of a part is above 2 ^ 128 - 1
abbrev pub is_wide_part : List ℕ → Bool
is_wide_part part = not (is_narrow part)

-- whether a run of digits of the text is above 2 ^ 128 - 1
abbrev pub is_wide : Parts → Bool
is_wide p = if_there is_wide_part p.epoch || is_wide_part p.main || if_there is_wide_part p.local

-- ---- the reading

-- the epoch as a component: the number 0 where there is none
abbrev pub epoch_run : Option (List ℕ) → List Run
epoch_run None = number 0 ∷ []
epoch_run (Some part) = runs part

-- the components of a local part, and none where there is no such part
abbrev pub local_lists : Option (List ℕ) → List (List Run)
local_lists None = []
local_lists (Some part) = lists part

-- the version that the parts spell
abbrev pub value : Parts → Value
value p = record { release = epoch_run p.epoch ∷ lists p.main; local = local_lists p.local }

-- the first of the faults that apply to the parts, else the version
abbrev pub version_of_parts : List ℕ → Parts → Result Value VersionFault
version_of_parts text p =
    if is_twice text p then Err fault.Twice
    else if if_there is_no_number p.epoch then Err fault.Epoch
    else if has_empty_part p then Err fault.EmptyPart
    else if is_wide p then Err fault.Wide
    else Ok (value p)

-- the reading of a text that begins at a place of the whole one, and whose first wrong byte is known
abbrev pub version_unless : ℕ → List ℕ → Option ℕ → Result Value VersionFault
version_unless from text (Some at) = Err (fault.Char (from + at))
version_unless from text None = version_of_parts text (parts text)

-- the reading of a text without blanks at its ends, that begins at a place of the whole one
abbrev pub version_of_trimmed : ℕ → List ℕ → Result Value VersionFault
version_of_trimmed from text = if is_nil text then Err fault.Empty else version_unless from text (first_wrong text)

-- what a text reads as: a version, or the first fault that applies
unfoldable pub version_of : List ℕ → Result Value VersionFault
version_of text = version_of_trimmed (length text - length (skip_blanks text)) (drop_blanks (skip_blanks text))

-- the number of a fault in print
abbrev pub version_fault_number : VersionFault → ℕ
version_fault_number fault.Empty = 1
version_fault_number (fault.Char at) = 2
version_fault_number fault.EmptyPart = 3
version_fault_number fault.Epoch = 4
version_fault_number fault.Wide = 5
version_fault_number fault.Twice = 6
