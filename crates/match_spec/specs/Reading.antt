-- What a text reads as a spec, or its first fault, step by step (docs/FORMATS.md, "Specs").
use Rattle.std.specs.Prelude.{ℕ, ◌+◌, ◌-◌, ◌==◌, ◌&&◌, not, Bool, true, List, [], ◌∷◌, length, reverse, drop, position, codes, is_some, Option, Some, None, Result, Ok, Err, if◌then◌else◌}
use Rattle.std.specs.List.{list_all}
use Rattle.std.specs.Result.{result_ok}
use Rattle.hex.specs.Hex.{decode_sized}
use Rattle.gateway_words.specs.Ascii.{colon, space}
use Rattle.gateway_words.specs.Reading.{◌>>=◌}
use Rattle.conda_name.specs.Dependency.{name_run}
use Rattle.conda_name.specs.Name.{lower_case}
use Rattle.conda_version.specs.Constraint.{constraint_of}
use Rattle.conda_version.specs.Leaf.{is_text}
use Rattle.byte_text.specs.Text.{before_last, begins_at, cut_at, is_nil, skip_blanks, turned_round}
use Rattle.conda_version.specs.declared.fault.ConstraintFault.{ConstraintFault}
use Rattle.match_spec.specs.Bracket.{Entry, Value, bare, entries, halves_of, quoted, unclosed}
use Rattle.match_spec.specs.Key.{Key}
use Rattle.match_spec.specs.Key as key
use Rattle.match_spec.specs.Kept.{Placed, bytes_of, form_constraint, form_of, kept, place_of_last}
use Rattle.match_spec.specs.Number.{number_test}
use Rattle.match_spec.specs.Parts.{Meaning, Parts, no_parts, replaced}
use Rattle.match_spec.specs.Passage.{Passage, begun, behind, ended, trimmed}
use Rattle.match_spec.specs.StarBuild.{tail_of}
use Rattle.match_spec.specs.Signs.{ends_name, is_build_byte, slash}
use Rattle.match_spec.specs.declared.fault.SpecFault.{SpecFault}
use Rattle.match_spec.specs.declared.fault.SpecFault.TheVariants as fault
use Rattle.match_spec.specs.declared.fault.SpecRefusal.{SpecRefusal}
use Rattle.match_spec.specs.declared.fault.SpecRefusal.TheVariants as refusal

-- what is read, or a fault
abbrev pub Read : Type 0 → Type 0
Read A = Result A SpecFault

-- the value of an option, or a fault where there is none
abbrev pub or_fault : {A : Type 0} → SpecFault → Option A → Read A
or_fault f None = Err f
or_fault f (Some a) = Ok a

-- ---- versions and builds

-- a constraint that was read, or this fault for any fault of its own
abbrev pub unless_refused : SpecFault → Result (List ℕ) ConstraintFault → Read (List ℕ)
unless_refused f (Ok constraint) = Ok constraint
unless_refused f (Err e) = Err f

-- the constraint of a text, or this fault
unfoldable pub constraint_or : SpecFault → List ℕ → Read (List ℕ)
constraint_or f text = unless_refused f (constraint_of text)

-- whether a text is a build: it has bytes, and each of them may stand in one
abbrev pub is_build : List ℕ → Bool
is_build text = not (is_nil text) && list_all is_build_byte text

-- the build of a text, or this fault
abbrev pub build_or : SpecFault → List ℕ → Read (List ℕ)
build_or f text = if is_build text then Ok text else Err f

-- ---- the bracket

-- the key of some bytes, if it is one
abbrev pub key_of : List ℕ → Option Key
key_of text =
    if is_text text (codes "version") then Some key.version
    else if is_text text (codes "build") then Some key.build
    else if is_text text (codes "build_number") then Some key.build_number
    else if is_text text (codes "channel") then Some key.channel
    else if is_text text (codes "subdir") then Some key.subdir
    else if is_text text (codes "md5") then Some key.md5
    else if is_text text (codes "sha256") then Some key.sha256
    else if is_text text (codes "fn") then Some key.file
    else None

-- whether the part of a key is there
abbrev pub has : Key → Parts → Bool
has key.version parts = is_some parts.version
has key.build parts = is_some parts.build
has key.build_number parts = is_some parts.build_number
has key.channel parts = is_some parts.channel
has key.subdir parts = is_some parts.subdir
has key.md5 parts = is_some parts.md5
has key.sha256 parts = is_some parts.sha256
has key.file parts = is_some parts.file

-- a text that isn't empty, or this fault
abbrev pub text_or : SpecFault → List ℕ → Read (List ℕ)
text_or f text = if is_nil text then Err f else Ok text

-- the n bytes whose hexadecimal digits a text is, or this fault
abbrev pub digest_or : ℕ → SpecFault → List ℕ → Read (List ℕ)
digest_or n f text = or_fault f (result_ok (decode_sized text n))

-- the parts with the value of a key, or a fault where the value isn't of the key's form
unfoldable pub with_value : Key → Passage → Parts → Read Parts
with_value key.version v parts =
    constraint_or (fault.Value v.at) v.text >>= λ found. Ok (record parts { version = Some found })
with_value key.build v parts =
    build_or (fault.Value v.at) v.text >>= λ found. Ok (record parts { build = Some found })
with_value key.build_number v parts =
    or_fault (fault.Value v.at) (number_test v.text) >>= λ found. Ok (record parts { build_number = Some found })
with_value key.channel v parts =
    text_or (fault.Value v.at) v.text >>= λ found. Ok (record parts { channel = Some found })
with_value key.subdir v parts =
    text_or (fault.Value v.at) v.text >>= λ found. Ok (record parts { subdir = Some found })
with_value key.md5 v parts =
    digest_or 16 (fault.Value v.at) v.text >>= λ found. Ok (record parts { md5 = Some found })
with_value key.sha256 v parts =
    digest_or 32 (fault.Value v.at) v.text >>= λ found. Ok (record parts { sha256 = Some found })
with_value key.file v parts =
    text_or (fault.Value v.at) v.text >>= λ found. Ok (record parts { file = Some found })

-- the parts with a value that was cut out: behind a closing quote may stand blanks alone
abbrev pub with_cut_value : Key → Value → Parts → Read Parts
with_cut_value k (bare v) parts = with_value k (ended v) parts
with_cut_value k (quoted at v tail) parts =
    if is_nil (skip_blanks tail.text) then with_value k v parts else Err (fault.Value at)
with_cut_value k (unclosed at) parts = Err (fault.Bracket at)

-- a key that may be read here, or this fault: one of the table whose part isn't there yet
abbrev pub new_key : SpecFault → Option Key → Parts → Read Key
new_key f None parts = Err f
new_key f (Some k) parts = if has k parts then Err f else Ok k

-- the parts with that of a key and a value, of which the value may be missing
abbrev pub with_pair : Passage → Option Value → Parts → Read Parts
with_pair k None parts = Err (fault.Key k.at)
with_pair k (Some value) parts =
    new_key (fault.Key k.at) (key_of k.text) parts >>= λ found. with_cut_value found value parts

-- the parts with that of one part of the bracket
unfoldable pub with_entry : Entry → Parts → Read Parts
with_entry e parts = with_pair (trimmed e.key) e.value parts

-- the parts with those of several parts of the bracket, from left to right
abbrev pub with_entries : List Entry → Parts → Read Parts
with_entries [] parts = Ok parts
with_entries (e ∷ es) parts = with_entry e parts >>= λ more. with_entries es more

-- the parts of a bracket, which may be empty
abbrev pub bracket_of : Option Passage → Read Parts
bracket_of None = Ok no_parts
bracket_of (Some p) = if is_nil (skip_blanks p.text) then Ok no_parts else with_entries (entries p) no_parts

-- ---- the version and the build behind a name

-- the parts with a constraint, or its fault
abbrev pub with_version : Parts → SpecFault → List ℕ → Read Parts
with_version parts f text = constraint_or f text >>= λ found. Ok (record parts { version = Some found })

-- the parts with a build, or its fault
abbrev pub with_build : SpecFault → List ℕ → Parts → Read Parts
with_build f text parts = build_or f text >>= λ found. Ok (record parts { build = Some found })

-- the parts with a constraint and a build, each with its fault: the constraint is tested first
abbrev pub with_both : Parts → SpecFault → List ℕ → SpecFault → List ℕ → Read Parts
with_both parts version_fault version build_fault build =
    with_version parts version_fault version >>= with_build build_fault build

-- the parts with the constraint and the build of two texts that a blank parts, unless another blank follows; the bytes
-- and their end are those of what stands behind the name, which begins at a place
abbrev pub with_two : Parts → ℕ → ℕ → List Placed → List ℕ → List ℕ → Option ℕ → Read Parts
with_two parts at end ps version build (Some n) = Err (fault.Build (at + place_of_last (length build - n) end ps))
with_two parts at end ps version build None =
    with_both parts (fault.Version at) version (fault.Build (at + place_of_last (length build) end ps)) build

-- the parts with what stands before a blank and behind it, or with all of it where there is none
abbrev pub with_words : Parts → ℕ → ℕ → List Placed → List ℕ → Option (List ℕ × List ℕ) → Read Parts
with_words parts at end ps bytes None = with_version parts (fault.Version at) bytes
with_words parts at end ps bytes (Some cut) =
    with_two parts at end ps cut.0 (skip_blanks cut.1) (position (λ b. b == space) (skip_blanks cut.1))

-- the parts with the version and the build of the form `V=B`, or with those of another form
abbrev pub with_form : Parts → ℕ → ℕ → List Placed → List ℕ → Option (List ℕ × List ℕ) → Read Parts
with_form parts at end ps bytes (Some form) =
    with_both parts (fault.Version at) (form_constraint form.0)
    (fault.Build (at + place_of_last (length form.1) end ps)) form.1
with_form parts at end ps bytes None = with_words parts at end ps bytes (cut_at space bytes)

-- the parts with the version and the build of the bytes that stay
abbrev pub with_kept : Parts → ℕ → ℕ → List Placed → List ℕ → Read Parts
with_kept parts at end ps bytes = with_form parts at end ps bytes (form_of bytes)

-- the parts with the version and the build of what stands behind a name, without blanks at its ends
unfoldable pub with_rest : Passage → Parts → Read Parts
with_rest p parts = if is_nil p.text then Ok parts else with_kept parts p.at (length p.text) (kept p.text) (bytes_of (kept p.text))

-- ---- the name

-- whether the first byte may follow a name, as the end may
abbrev pub may_follow : List ℕ → Bool
may_follow [] = true
may_follow (b ∷ rest) = ends_name b

-- the name that is a run of bytes, with the version and the build of what follows it
abbrev pub named_before : List ℕ → Passage → Parts → Read Meaning
named_before run rest parts =
    if may_follow rest.text
    then (with_rest (trimmed rest) parts >>= λ found. Ok (record { name = lower_case run; parts = found }))
    else Err (fault.Name rest.at)

-- the name that a passage begins with, where the run of bytes of a name there isn't empty
abbrev pub named_by : Passage → List ℕ → Parts → Read Meaning
named_by p run parts = if is_nil run then Err fault.NoName else named_before run (behind (length run) p) parts

-- the name with which a passage begins, and the version and the build behind it
unfoldable pub named : Passage → Parts → Read Meaning
named p parts = named_by (begun p) (name_run (begun p).text) parts

-- ---- the channel

-- what stands behind the first `::`, if there is one
abbrev pub behind_colons : List ℕ → Option (List ℕ)
behind_colons [] = None
behind_colons (b ∷ rest) =
    if b == colon && begins_at colon rest then Some (tail_of rest) else behind_colons rest

-- what stands before the last `::`, if there is one
abbrev pub before_colons : List ℕ → Option (List ℕ)
before_colons text = turned_round (behind_colons (reverse text))

-- the channel and the subdir of two texts, of which neither may be empty
abbrev pub slot_of : List ℕ → List ℕ → Read Parts
slot_of channel subdir =
    if is_nil channel then Err fault.NoName
    else if is_nil subdir then Err fault.NoName
    else Ok (record no_parts { channel = Some channel; subdir = Some subdir })

-- the channel of a text that has no `/`, and the channel and the subdir of one whose last `/` is known
abbrev pub place_by : List ℕ → Option (List ℕ) → Read Parts
place_by text None = if is_nil text then Err fault.NoName else Ok (record no_parts { channel = Some text })
place_by text (Some channel) = slot_of channel (drop (length channel + 1) text)

-- the channel, and perhaps the subdir, of what stands before the last `::`
abbrev pub place_of : List ℕ → Read Parts
place_of text = place_by text (before_last slash text)

-- what stands outside the bracket, of which what stands before the last `::` is known
abbrev pub outside_by : Passage → Option (List ℕ) → Read Meaning
outside_by p None = named p no_parts
outside_by p (Some channel) = place_of channel >>= named (behind (length channel + 2) p)

-- what stands outside the bracket: a channel, a name, a version and a build
unfoldable pub outside_of : Passage → Read Meaning
outside_of p = outside_by p (before_colons p.text)

-- ---- the whole

-- the parts of a bracket in the place of those outside it
abbrev pub with_bracket : Option Passage → Meaning → Read Meaning
with_bracket inside outer =
    bracket_of inside >>= λ inner. Ok (record outer { parts = replaced inner outer.parts })

-- what a passage without blanks at its ends reads as
abbrev pub spec_in : Passage → Read Meaning
spec_in p =
    if is_nil p.text then Err fault.Empty
    else halves_of p >>= λ h. (outside_of h.outside >>= with_bracket h.inside)

-- what a text reads as: a spec, or the first fault in the order of the steps
unfoldable pub spec_of : List ℕ → Read Meaning
spec_of text = spec_in (trimmed (record { at = 0; text = text }))

-- the fault of a refusal, which has none where memory ran out
abbrev pub fault_of : SpecRefusal → Option SpecFault
fault_of (refusal.Fault f) = Some f
fault_of refusal.Memory = None

-- the number of a fault in print
abbrev pub spec_fault_number : SpecFault → ℕ
spec_fault_number fault.Empty = 1
spec_fault_number fault.NoName = 2
spec_fault_number (fault.Name at) = 3
spec_fault_number (fault.Version at) = 4
spec_fault_number (fault.Build at) = 5
spec_fault_number (fault.Bracket at) = 6
spec_fault_number (fault.Key at) = 7
spec_fault_number (fault.Value at) = 8
