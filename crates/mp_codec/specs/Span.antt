-- Where a text stands in some bytes.
use Rattle.std.specs.Prelude.{◌≡◌, ℕ, ◌-◌, ◌≤◌, nat_le, ◌&&◌, List, [], length, drop, Option, Some, None, unwrap_or, Ok, if◌then◌else◌, slice_range}
use Rattle.std.specs.Borrow.{Bor}
use Rattle.std.specs.Str.{is_utf8}
use Rattle.gateway_words.specs.Places.{Position}
use Rattle.gateway_words.specs.Reading.{◌>>=◌}
use Rattle.mp_codec.specs.declared.span.Span.{Span}
use Rattle.mp_codec.specs.Maps.{Read, text_from, str_from}

-- a position in these bytes, at its own place
pub record IsIn (bytes : List ℕ) (here : Position) : Type 0 where
  pub within : here.at ≤ length bytes
  pub left : here.left ≡ drop here.at bytes

-- the bytes from the start of a span to its end, if they are there
abbrev pub part_of : List ℕ → Span → Option (List ℕ)
part_of bytes span = if nat_le span.start span.end && nat_le span.end (length bytes) then Some (slice_range bytes span.start span.end) else None

-- the bytes at a span of some bytes, or none where they are not there
abbrev pub raw_at : List ℕ → Span → List ℕ
raw_at bytes span = unwrap_or (part_of bytes span) []

-- the text that some bytes are, or the empty one
abbrev pub text_or_none : Option (List ℕ) → List ℕ
text_or_none (Some part) = if is_utf8 part then part else []
text_or_none None = []

-- the text at a span of some bytes, or the empty one where none stands there
unfoldable pub text_at : List ℕ → Span → List ℕ
text_at bytes span = text_or_none (part_of bytes span)

-- ---- reading where a text stands

-- the span of the last bytes before a position, so many
abbrev pub span_before : ℕ → Position → Span
span_before len there = record { start = there.at - len; end = there.at }

-- where the text that must stand here begins and ends
unfoldable pub span_from : Position → Read Span
span_from here = text_from here >>= λ t. Ok (span_before (length t.0) t.1, t.1)

-- some bytes that end before a position
pub record Placed : Type 0 where
  pub bytes : List ℕ
  pub span : Span

-- these bytes, which end before a position, with their span
abbrev pub placed_before : List ℕ → Position → Placed
placed_before bytes there = record { bytes = bytes; span = span_before (length bytes) there }

-- the bytes that were read, if any, with their span
abbrev pub placed_if : Option (List ℕ) → Position → Option Placed
placed_if (Some bytes) there = Some (placed_before bytes there)
placed_if None there = None

-- bytes that a call lent with their span, if any
abbrev pub placed_seen : Option (Bor (List ℕ) × Span) → Option Placed
placed_seen (Some p) = Some (record { bytes = p.0.now; span = p.1 })
placed_seen None = None

-- the bytes of a str with their span, or none of a value of another kind
unfoldable pub placed_str_from : Position → Read (Option Placed)
placed_str_from here = str_from here >>= λ s. Ok (placed_if s.0 s.1, s.1)
