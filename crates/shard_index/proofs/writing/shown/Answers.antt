use Rattle.std.proofs.Common.{◌≡◌, subst, true, List, ℕ}
use Rattle.std.specs.Str.{is_utf8}
use Rattle.std.proofs.lemmas.Str.{is_utf8-from_IsUtf8}
use Rattle.shard_index.proofs.writing.shown.Goals as goal

pub returns-clause-text : goal.returns-clause-text
returns-clause-text c = subst (λ (t : List ℕ). is_utf8 t ≡ true) c.as_str.ensures.value (is_utf8-from_IsUtf8 c.as_str.result.now c.as_str.utf8)
