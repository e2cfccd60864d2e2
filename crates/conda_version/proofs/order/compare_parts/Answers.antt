use Rattle.std.proofs.Common.{◌≡◌, sym, ◌∙◌, ap, arith, true, false, length}
use Rattle.std.specs.Prelude.{◌&&◌}
use Rattle.std.specs.Cmp.{first_so, second_so}
use Rattle.conda_version.specs.Version.{lists}
use Rattle.conda_version.specs.Grammar.{is_narrow}
use Rattle.conda_version.specs.Order.{lists_cmp}
use Rattle.conda_version.specs.Cursor.{at_end}
use Rattle.conda_version.proofs.StepLemmas.{steps-shorter, step-differs, step-tied, part-skip, narrow-behind, equal_from_index, other_from_index}
use Rattle.conda_version.proofs.order.compare_parts.Goals as goal

pub returns-then-ne : goal.returns-then-ne
returns-then-ne c =
    step-differs c.steps.left.now c.steps.right.now c.step_cmp-order.result (cc) (other_from_index _ (sym c.if-ne.true ∙ c.ne.ensures)) ∙ sym c.steps.invariant.same

pub steps-preserved-then-both_at_end : goal.steps-preserved-then-both_at_end
steps-preserved-then-both_at_end c =
    let both : (at_end c.steps.left.now && at_end c.steps.right.now) ≡ true = sym c.both_at_end.ensures ∙ c.if-both_at_end.true in
    let left = first_so _ _ both in
    let right = second_so _ _ both in
    record {
      same = c.steps.invariant.same ∙ part-skip c.steps.left.now c.steps.right.now left right
          ∙ sym (λ i. lists_cmp (lists (c.behind-left.ensures i)) (lists (c.behind-right.ensures i)));
      left = ap is_narrow c.behind-left.ensures ∙ narrow-behind c.steps.left.now left c.steps.invariant.left;
      right = ap is_narrow c.behind-right.ensures ∙ narrow-behind c.steps.right.now right c.steps.invariant.right;
    }

pub steps-smaller : goal.steps-smaller
steps-smaller c =
    let on : (at_end c.steps.left.now && at_end c.steps.right.now) ≡ false = sym c.both_at_end.ensures ∙ c.if-both_at_end.false in
    omega (arith, steps-shorter c.steps.left.now c.steps.right.now on, ap length c.next_step-x.ensures.rest, ap length c.next_step-y.ensures.rest)

pub steps-preserved : goal.steps-preserved
steps-preserved c = record {
  same = c.steps.invariant.same ∙ step-tied c.steps.left.now c.steps.right.now _ _ c.step_cmp-order.result (cc)
      (equal_from_index _ (sym c.if-ne.false ∙ c.ne.ensures)) c.next_step-x.ensures.rest c.next_step-y.ensures.rest;
  left = c.next_step-x.ensures.narrow;
  right = c.next_step-y.ensures.narrow;
}
