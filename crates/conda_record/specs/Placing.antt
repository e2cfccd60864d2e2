-- Reading from a position where a record's texts stand, by the known keys and their kinds.
use Rattle.std.specs.Prelude.{ℕ, List, [], Option, Some, None, unwrap_or, Ok, slice_index_or, if◌then◌else◌}
use Rattle.std.specs.Str.{is_utf8}
use Rattle.gateway_words.specs.Places.{Position}
use Rattle.gateway_words.specs.Reading.{◌>>=◌}
use Rattle.mp_codec.specs.declared.span.Span.{Span}
use Rattle.mp_codec.specs.Maps.{Read, entries_from, map_from, number_from, unread, known_key_from, known_value_from, known_end_from}
use Rattle.mp_codec.specs.Span.{Placed, span_from, placed_str_from}
use Rattle.conda_record.specs.Texts.{each_from, listed_from}
use Rattle.conda_record.specs.Digests.{digest_span_from}
use Rattle.conda_record.specs.Record.{record_keys}
use Rattle.conda_record.specs.Reading.{Kind, text, number, optional_text, texts, digest, kinds, required}
use Rattle.conda_record.specs.Places.{Places}

-- ---- the values of the known keys

-- what is kept of the value behind a key: where it stands, or its number
pub data Place : Type 0 where
  TextAt : Span → Place
  NumberIs : Option ℕ → Place
  OptionalTextAt : Option Span → Place
  TextsAt : Option (List Span) → Place
  DigestAt : Option Span → Place

-- where bytes stand, if they are text
abbrev pub span_if_text : Option Placed → Option Span
span_if_text (Some p) = if is_utf8 p.bytes then Some p.span else None
span_if_text None = None

-- where a text stands, or none of a value of another kind
unfoldable pub optional_span_from : Position → Read (Option Span)
optional_span_from here = placed_str_from here >>= λ s. Ok (span_if_text s.0, s.1)

-- where so many texts stand
abbrev pub spans_at : ℕ → Position → Read (List Span)
spans_at = each_from span_from

-- where the texts of a list stand, or none of a value of another kind
abbrev pub spans_from : Position → Read (Option (List Span))
spans_from = listed_from span_from

-- the place of a value of this kind
abbrev pub place_by : Kind → Position → Read Place
place_by text here = span_from here >>= λ s. Ok (TextAt s.0, s.1)
place_by number here = number_from here >>= λ n. Ok (NumberIs n.0, n.1)
place_by optional_text here = optional_span_from here >>= λ s. Ok (OptionalTextAt s.0, s.1)
place_by texts here = spans_from here >>= λ ss. Ok (TextsAt ss.0, ss.1)
place_by (digest n) here = digest_span_from n here >>= λ s. Ok (DigestAt s.0, s.1)

-- the same, as what is kept of a key
abbrev pub kept_by : Kind → Position → Read (Option Place)
kept_by kind here = place_by kind here >>= λ p. Ok (Some p.0, p.1)

-- the place of the value of the known key at this place
abbrev pub place_from : ℕ → Position → Read Place
place_from i here = place_by (slice_index_or kinds i number) here

-- ---- the places of what was read

-- the span that was kept, or that of nothing
abbrev pub span_or_none : Option Place → Span
span_or_none (Some (TextAt s)) = s
span_or_none _ = record { start = 0; end = 0 }

-- the number that was kept, if there is one
abbrev pub number_in : Option Place → Option ℕ
number_in (Some (NumberIs n)) = n
number_in _ = None

-- the span of a text that was kept, if there is one
abbrev pub optional_span_in : Option Place → Option Span
optional_span_in (Some (OptionalTextAt s)) = s
optional_span_in _ = None

-- the spans of the texts that were kept, or none
abbrev pub spans_in : Option Place → List Span
spans_in (Some (TextsAt (Some ss))) = ss
spans_in _ = []

-- the span of a digest that was kept, if there is one
abbrev pub digest_span_in : Option Place → Option Span
digest_span_in (Some (DigestAt s)) = s
digest_span_in _ = None

-- the places of a record, by the places of the keys
abbrev pub places_in : List (Option Place) → Places
places_in s = record {
  name = span_or_none (slice_index_or s 0 None);
  version = span_or_none (slice_index_or s 1 None);
  build = span_or_none (slice_index_or s 2 None);
  build_number = unwrap_or (number_in (slice_index_or s 3 None)) 0;
  depends = spans_in (slice_index_or s 4 None);
  constrains = spans_in (slice_index_or s 5 None);
  subdir = optional_span_in (slice_index_or s 6 None);
  md5 = digest_span_in (slice_index_or s 7 None);
  sha256 = digest_span_in (slice_index_or s 8 None);
  size = number_in (slice_index_or s 9 None);
  timestamp = number_in (slice_index_or s 10 None);
  license = optional_span_in (slice_index_or s 11 None);
  noarch = optional_span_in (slice_index_or s 12 None);
}

-- the end of a record, which has the required keys
unfoldable pub places_end_from : List (Option Place) → Position → Read Places
places_end_from s here = known_end_from required s here >>= λ s. Ok (places_in s.0, s.1)

-- so many pairs of a record, behind what was read so far, and its end
abbrev pub place_pairs_from : ℕ → List (Option Place) → Position → Read Places
place_pairs_from = entries_from (known_key_from record_keys) (known_value_from record_keys place_from) places_end_from

-- the places of the record that stands here
unfoldable pub places_from : Position → Read Places
places_from here = map_from (λ n there. place_pairs_from n (unread record_keys) there) here
