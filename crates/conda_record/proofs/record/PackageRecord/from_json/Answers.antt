use Rattle.std.proofs.Common.{Some, unwrap_or, ap, sym, ◌∙◌}
use Rattle.conda_record.specs.Json.{fields_of_json}
use Rattle.conda_record.proofs.record.PackageRecord.from_json.Goals as goal

pub returns-clause-ok : goal.returns-clause-ok
unfolding fields_of_json
returns-clause-ok c =
    let name = c.in_ok-required.ensures.ok in
    let version = c.in_ok-required-2.ensures.ok in
    let build = c.in_ok-required-3.ensures.ok in
    let build_number = c.unwrap_or.ensures ∙ ap (λ n. unwrap_or n 0) c.number.ensures in
    rw (name, version, build) (λ i. Some (record {
      name = c.in_ok-required.field-0;
      version = c.in_ok-required-2.field-0;
      build = c.in_ok-required-3.field-0;
      build_number = (sym build_number) i;
      depends = (sym c.in_ok-texts.ensures) i;
      constrains = (sym c.in_ok-texts-2.ensures) i;
      subdir = (sym c.in_ok-optional.ensures) i;
      md5 = (sym c.digest.ensures) i;
      sha256 = (sym c.digest-2.ensures) i;
      size = (sym c.number-2.ensures) i;
      timestamp = (sym c.number-3.ensures) i;
      license = (sym c.in_ok-optional-2.ensures) i;
      noarch = (sym c.in_ok-optional-3.ensures) i;
    }))
