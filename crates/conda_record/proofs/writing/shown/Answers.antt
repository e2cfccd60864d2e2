use Rattle.std.proofs.Common.{subst}
use Rattle.std.proofs.lemmas.Str.{is_utf8-from_IsUtf8}
use Rattle.conda_record.specs.Writing.{AreText}
use Rattle.conda_record.proofs.writing.shown.Goals as goal

pub returns-clause-text : goal.returns-clause-text
returns-clause-text c = subst AreText c.as_str.ensures (is_utf8-from_IsUtf8 c.as_str.result.now c.as_str.utf8)
