use Rattle.std.proofs.Common.{rules, ◌≡◌, ◌-◌, ℕ, length, false, sym, ◌∙◌, ap}
use Rattle.std.specs.Prelude.{None}
use Rattle.byte_text.specs.Text.{drop_blanks, is_nil, skip_blanks}
use Rattle.conda_version.specs.Grammar.{first_wrong, version_of, version_of_parts, version_of_trimmed}
use Rattle.conda_version.proofs.StartLemmas.{is-nil-length}
use Rattle.conda_version.proofs.VersionLemmas.{read-on}
use Rattle.conda_version.proofs.version.Version.read_bytes.Goals as goal

pub returns : goal.returns
unfolding version_of
returns c =
    let from : ℕ = length c.args.text.now - length (skip_blanks c.args.text.now) in
    let trimmed = c.drop_blanks-trimmed.result.now in
    let same = c.drop_blanks-trimmed.ensures.value ∙ ap drop_blanks c.skip_blanks-front.ensures.value in
    let some : is_nil trimmed ≡ false = is-nil-length trimmed ∙ sym c.is_empty.ensures ∙ c.if-is_empty.false in
    let right : first_wrong trimmed ≡ None = search rules in
    c.of_parts.ensures ∙ ap (version_of_parts trimmed) c.of.ensures ∙ sym (read-on from trimmed some right) ∙ ap (version_of_trimmed from) same
