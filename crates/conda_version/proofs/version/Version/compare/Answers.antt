use Rattle.std.proofs.Common.{sym, ◌∙◌}
use Rattle.conda_version.proofs.StepLemmas.{equal_from_index}
use Rattle.conda_version.proofs.VersionLemmas.{mains-tie}
use Rattle.conda_version.proofs.version.Version.compare.Goals as goal

pub returns : goal.returns
returns c = record {
  exact =
      c.compare_parts.ensures
      ∙ sym (mains-tie c.args.self c.args.other
      (sym c.cmp-order.ensures ∙ equal_from_index _ (sym c.if-ne.false ∙ c.ne.ensures))
      (sym c.compare_parts-order.ensures ∙ equal_from_index _ (sym c.if-ne-2.false ∙ c.ne-2.ensures)));
}
