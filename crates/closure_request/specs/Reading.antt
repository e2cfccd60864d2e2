-- What a line reads as: a request, or why it is none (docs/FORMATS.md, "Requests").
use Rattle.std.specs.Prelude.{ℕ, ◌+◌, ◌==◌, Bool, List, [], ◌∷◌, ◌++◌, length, Option, Some, None, Result, Ok, Err, if◌then◌else◌}
use Rattle.std.specs.List.{slice_split}
use Rattle.std.specs.Str.{is_utf8}
use Rattle.gateway_words.specs.Reading.{◌>>=◌}
use Rattle.match_spec.specs.Parts.{Meaning}
use Rattle.match_spec.specs.Reading.{spec_of}
use Rattle.match_spec.specs.declared.fault.SpecFault.{SpecFault}
use Rattle.closure_request.specs.Request.{Site, Asking}
use Rattle.closure_request.specs.declared.options.Format.{Format}
use Rattle.closure_request.specs.declared.options.Priority.{Priority}
use Rattle.closure_request.specs.declared.refusal.RequestRefusal.{RequestRefusal}
use Rattle.closure_request.specs.declared.refusal.RequestRefusal.TheVariants as refusal

-- `;`
abbrev pub semicolon : ℕ
semicolon = 0x3b

-- what is read, or a refusal
abbrev pub Read : Type 0 → Type 0
Read A = Result A RequestRefusal

-- the pieces of a line, which is cut at each `;`
abbrev pub pieces : List ℕ → List (List ℕ)
pieces line = slice_split (λ b. b == semicolon) line

-- a spec that was read, or the refusal of the piece of this number
abbrev pub numbered : ℕ → Result Meaning SpecFault → Read Meaning
numbered number (Ok spec) = Ok spec
numbered number (Err fault) = Err (refusal.Spec number fault)

-- the spec of the piece of a number
unfoldable pub spec_at : ℕ → List ℕ → Read Meaning
spec_at number piece = numbered number (spec_of piece)

-- the specs of pieces, numbered from here on, or the refusal of the first piece that is no spec
abbrev pub specs_from : ℕ → List (List ℕ) → Read (List Meaning)
specs_from number [] = Ok []
specs_from number (piece ∷ rest) = spec_at number piece >>= λ spec. specs_from (number + 1) rest >>= λ specs. Ok (spec ∷ specs)

-- specs with that of the next piece
abbrev pub with_spec : List Meaning → List ℕ → Read (List Meaning)
with_spec specs piece = spec_at (length specs + 1) piece >>= λ spec. Ok (specs ++ spec ∷ [])

-- the specs of a line, which is text
abbrev pub specs_of : List ℕ → Read (List Meaning)
specs_of line = if is_utf8 line then specs_from 1 (pieces line) else Err refusal.NotText

-- the request of these channels, subdirs and options, with the specs of a line
abbrev pub request_of : List Site → List (List ℕ) → Bool → Format → Priority → List ℕ → Read Asking
request_of channels subdirs flat format priority line = specs_of line >>= λ specs. Ok (record {
  channels = channels;
  subdirs = subdirs;
  specs = specs;
  flat = flat;
  format = format;
  priority = priority;
})

-- the fault of a refusal, which has none where memory ran out
abbrev pub fault_of : RequestRefusal → Option RequestRefusal
fault_of (refusal.Spec number fault) = Some (refusal.Spec number fault)
fault_of refusal.NotText = Some refusal.NotText
fault_of refusal.Memory = None
