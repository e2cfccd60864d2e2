use Rattle.std.proofs.Common.{rules, sym, ◌∙◌}
use Rattle.shard_file.specs.Twin.{newer_ending}
use Rattle.shard_file.proofs.TwinLemmas.{cmp_shorter}
use Rattle.shard_file.proofs.twin.compare.Goals as goal

pub returns-then-file-stem : goal.returns-then-file-stem
returns-then-file-stem c = c.cmp.ensures ∙ sym (cmp_shorter c.args.file.now c.args.stem.now newer_ending (search rules))
