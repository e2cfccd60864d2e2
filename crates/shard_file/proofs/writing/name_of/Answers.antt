use Rattle.std.proofs.Common.{rules, ◌≡◌, subst}
use Rattle.std.proofs.lemmas.Str.{is_utf8-from_IsUtf8}
use Rattle.conda_record.specs.Writing.{AreText}
use Rattle.shard_file.proofs.writing.name_of.Goals as goal

pub returns-clause-text : goal.returns-clause-text
returns-clause-text c =
    let same : c.as_str.result.now ≡ c.args.file.now.file = search rules in
    subst AreText same (is_utf8-from_IsUtf8 c.as_str.result.now c.as_str.utf8)
