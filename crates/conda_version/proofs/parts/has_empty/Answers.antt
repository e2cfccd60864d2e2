use Rattle.std.proofs.Common.{sym, ◌∙◌, ap}
use Rattle.conda_version.proofs.FaultLemmas.{empty_from, empty-start, empty-cut-at}
use Rattle.conda_version.proofs.parts.has_empty.Goals as goal

pub bytes-init : goal.bytes-init
bytes-init c = empty-start c.args.part.now

pub bytes-preserved : goal.bytes-preserved
bytes-preserved c =
    c.bytes.invariant ∙ ap (λ b. empty_from b c.bytes.rest.now) c.if-begun.true
    ∙ empty-cut-at c.bytes.rest.now c.in-len1-up.len_at_least (sym c.cuts.ensures ∙ c.if-not-cuts.false)
