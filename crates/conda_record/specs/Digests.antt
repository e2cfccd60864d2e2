-- A digest, where a value is one: its bytes, or their hexadecimal digits.
use Rattle.std.specs.Prelude.{ℕ, ◌+◌, ◌==◌, Bool, List, length, Option, Some, None, option_and_then, Ok, if◌then◌else◌}
use Rattle.std.specs.Result.{result_ok}
use Rattle.hex.specs.Hex.{decode_sized}
use Rattle.gateway_words.specs.Places.{Position}
use Rattle.gateway_words.specs.Reading.{◌>>=◌}
use Rattle.mp_codec.specs.declared.head.Head.{Head}
use Rattle.mp_codec.specs.declared.head.Head.TheVariants as head
use Rattle.mp_codec.specs.Value.{Value, value}
use Rattle.mp_codec.specs.Reading.{head_from, bytes_from}
use Rattle.mp_codec.specs.declared.span.Span.{Span}
use Rattle.mp_codec.specs.Maps.{Read, skipped}
use Rattle.mp_codec.specs.Span.{part_of}

-- the digest of n bytes that a head and its payload are: a bin of that many bytes, or a str of their hexadecimal digits of either case
abbrev pub digest_in : ℕ → Head → List ℕ → Option (List ℕ)
digest_in n (head.Bin m) payload = if m == n then Some payload else None
digest_in n (head.Str m) payload = result_ok (decode_sized payload n)
digest_in n _ payload = None

-- the digest of n bytes that a value is, if it is one
abbrev pub digest_of : ℕ → Value → Option (List ℕ)
digest_of n (value h payload parts) = digest_in n h payload

-- ---- reading it

-- so many bytes that begin there, as the digest that a head and they are
abbrev pub digest_behind : ℕ → Head → ℕ → Position → Read (Option (List ℕ))
digest_behind n h len there = bytes_from len there >>= λ s. Ok (digest_in n h s.0, s.1)

-- the digest whose payload begins there, or none of a value of another kind that stands here
abbrev pub digest_by : ℕ → Head → Position → Position → Read (Option (List ℕ))
digest_by n (head.Bin m) here there = digest_behind n (head.Bin m) m there
digest_by n (head.Str m) here there = digest_behind n (head.Str m) m there
digest_by n _ here there = skipped None here

-- a digest of n bytes, or none of a value of another kind
unfoldable pub digest_from : ℕ → Position → Read (Option (List ℕ))
digest_from n here = head_from here >>= λ h. digest_by n h.0 here h.1

-- ---- where it stands

-- the digest of n bytes that some bytes are: they themselves, or what their hexadecimal digits say
abbrev pub digest_in_bytes : ℕ → List ℕ → Option (List ℕ)
digest_in_bytes n bytes = if length bytes == n then Some bytes else result_ok (decode_sized bytes n)

-- the digest of n bytes at a span of some bytes
abbrev pub digest_at : ℕ → List ℕ → Span → Option (List ℕ)
digest_at n bytes span = option_and_then (digest_in_bytes n) (part_of bytes span)

-- the span of so many bytes that begin there
unfoldable pub span_behind : ℕ → Position → Read Span
span_behind len there = bytes_from len there >>= λ s. Ok (record { start = there.at; end = s.1.at }, s.1)

-- the span of so many bytes that begin there, if they may be a digest
abbrev pub payload_span : Bool → ℕ → Position → Read (Option Span)
payload_span may len there = span_behind len there >>= λ s. Ok (if may then Some s.0 else None, s.1)

-- the span of the payload that begins there, of a bin of n bytes or a str of as many pairs of bytes, or none of a value of another kind that stands here
abbrev pub digest_span_by : ℕ → Head → Position → Position → Read (Option Span)
digest_span_by n (head.Bin m) here there = payload_span (m == n) m there
digest_span_by n (head.Str m) here there = payload_span (m == n + n) m there
digest_span_by n _ here there = skipped None here

-- where the bytes or the digits of a digest of n bytes stand, or none of a value of another kind
unfoldable pub digest_span_from : ℕ → Position → Read (Option Span)
digest_span_from n here = head_from here >>= λ h. digest_span_by n h.0 here h.1
