-- A record as places in the bytes that spell it.
use Rattle.std.specs.Prelude.{ℕ, List, map, Option, Some, option_map, option_and_then, slice_get}
use Rattle.mp_codec.specs.declared.span.Span.{Span}
use Rattle.mp_codec.specs.Span.{text_at}
use Rattle.conda_record.specs.declared.spans.Field.{Field}
use Rattle.conda_record.specs.declared.spans.Field.TheVariants as field
use Rattle.conda_record.specs.Record.{Fields}
use Rattle.conda_record.specs.Digests.{digest_at}

-- where the texts of a record stand, and those of its digests, with its numbers
pub record Places : Type 0 where
  pub name : Span
  pub version : Span
  pub build : Span
  pub build_number : ℕ
  pub depends : List Span
  pub constrains : List Span
  pub subdir : Option Span
  pub md5 : Option Span
  pub sha256 : Option Span
  pub size : Option ℕ
  pub timestamp : Option ℕ
  pub license : Option Span
  pub noarch : Option Span

-- the fields, each as it stands at its place in these bytes
unfoldable pub fields_at : List ℕ → Places → Fields
fields_at bytes p = record {
  name = text_at bytes p.name;
  version = text_at bytes p.version;
  build = text_at bytes p.build;
  build_number = p.build_number;
  depends = map (text_at bytes) p.depends;
  constrains = map (text_at bytes) p.constrains;
  subdir = option_map (text_at bytes) p.subdir;
  md5 = option_and_then (digest_at 16 bytes) p.md5;
  sha256 = option_and_then (digest_at 32 bytes) p.sha256;
  size = p.size;
  timestamp = p.timestamp;
  license = option_map (text_at bytes) p.license;
  noarch = option_map (text_at bytes) p.noarch;
}

-- ---- the place of one field

-- where a field stands, if the record has it
abbrev pub span_of : Field → Places → Option Span
span_of field.Name p = Some p.name
span_of field.Version p = Some p.version
span_of field.Build p = Some p.build
span_of field.Subdir p = p.subdir
span_of field.License p = p.license
span_of field.Noarch p = p.noarch
span_of (field.Depend i) p = slice_get p.depends i
span_of (field.Constrain i) p = slice_get p.constrains i

-- the text of a field, if the record has it
abbrev pub text_of_field : Field → Fields → Option (List ℕ)
text_of_field field.Name f = Some f.name
text_of_field field.Version f = Some f.version
text_of_field field.Build f = Some f.build
text_of_field field.Subdir f = f.subdir
text_of_field field.License f = f.license
text_of_field field.Noarch f = f.noarch
text_of_field (field.Depend i) f = slice_get f.depends i
text_of_field (field.Constrain i) f = slice_get f.constrains i

-- the first place of a span, and the place behind its last one
abbrev pub ends_of : Span → ℕ × ℕ
ends_of span = (span.start, span.end)
