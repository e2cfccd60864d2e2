use Rattle.std.proofs.Common.{sym, ◌∙◌, ap, ℕ, Ok}
use Rattle.std.specs.Prelude.{Option, unwrap_or}
use Rattle.mp_codec.specs.declared.span.Span.{Span}
use Rattle.conda_record.specs.Placing.{TextAt, span_or_none}
use Rattle.conda_record.specs.Found.{kept}
use Rattle.conda_record.proofs.FoundLemmas.{number_is, optional_text_is, digest_is, ends}
use Rattle.conda_record.proofs.reading.Found.finish.Goals as goal

pub returns : goal.returns
returns c =
    let f = c.args.self.now in
    let is = c.in-Some-Some-Some in
    ends f c.args.cur.now is.name is.version is.build is.is-0 is.is-1 is.is-2 ∙ (λ i. Ok (
      record {
        name = ap (λ (o : Option Span). span_or_none (kept TextAt o)) is.is-0 i;
        version = ap (λ (o : Option Span). span_or_none (kept TextAt o)) is.is-1 i;
        build = ap (λ (o : Option Span). span_or_none (kept TextAt o)) is.is-2 i;
        build_number = (ap (λ (o : Option ℕ). unwrap_or o 0) (number_is f.build_number f.others.build_number) ∙ sym c.unwrap_or.ensures) i;
        depends = (sym (c.listed.ensures f.others.depends)) i;
        constrains = (sym (c.listed-2.ensures f.others.constrains)) i;
        subdir = optional_text_is f.subdir f.others.subdir i;
        md5 = digest_is f.md5 f.others.md5 i;
        sha256 = digest_is f.sha256 f.others.sha256 i;
        size = number_is f.size f.others.size i;
        timestamp = number_is f.timestamp f.others.timestamp i;
        license = optional_text_is f.license f.others.license i;
        noarch = optional_text_is f.noarch f.others.noarch i;
      },
      c.args.cur.now,
    ))
