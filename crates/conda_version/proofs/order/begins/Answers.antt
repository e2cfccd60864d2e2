use Rattle.std.proofs.Common.{◌≡◌, sym, ◌∙◌, ap, arith, true, false, length}
use Rattle.std.specs.Prelude.{◌&&◌, not}
use Rattle.std.specs.Cmp.{first_so, second_so}
use Rattle.byte_text.specs.Text.{is_nil}
use Rattle.conda_version.specs.Version.{lists}
use Rattle.conda_version.specs.Grammar.{is_narrow}
use Rattle.conda_version.specs.Order.{lists_begin}
use Rattle.conda_version.specs.Cursor.{at_end}
use Rattle.conda_version.proofs.StepLemmas.{narrow-behind, equal_from_index, other_from_index}
use Rattle.conda_version.proofs.StartLemmas.{begins-differs, begins-last, begins-shorter, begins-skip, begins-tied, step-nil, is-nil-length, not-true, nil-from}
use Rattle.conda_version.proofs.order.begins.Goals as goal

pub steps-preserved-then-both_go_on : goal.steps-preserved-then-both_go_on
steps-preserved-then-both_go_on c =
    let all : (not (is_nil c.steps.right.now) && (at_end c.steps.left.now && at_end c.steps.right.now)) ≡ true = sym c.both_go_on.ensures ∙ c.if-both_go_on.true in
    let some = not-true _ (first_so _ _ all) in
    let left = first_so _ _ (second_so _ _ all) in
    let right = second_so _ _ (second_so _ _ all) in
    record {
      same = c.steps.invariant.same ∙ begins-skip c.steps.left.now c.steps.right.now some left right
          ∙ sym (λ i. lists_begin (lists (c.behind-left.ensures i)) (lists (c.behind-right.ensures i)));
      left = ap is_narrow c.behind-left.ensures ∙ narrow-behind c.steps.left.now left c.steps.invariant.left;
      right = ap is_narrow c.behind-right.ensures ∙ narrow-behind c.steps.right.now right c.steps.invariant.right;
    }

pub returns-then-is_empty : goal.returns-then-is_empty
returns-then-is_empty c =
    let none = nil-from c.next_step-y.result.rest.now (is-nil-length c.next_step-y.result.rest.now ∙ sym c.is_empty.ensures ∙ c.if-is_empty.true) in
    let last = begins-last c.steps.left.now c.steps.right.now (sym c.next_step-y.ensures.rest ∙ none) in
    let inv = c.steps.invariant.same in
    cc

pub returns-then-ne : goal.returns-then-ne
returns-then-ne c =
    let some : is_nil c.next_step-y.result.rest.now ≡ false = is-nil-length c.next_step-y.result.rest.now ∙ sym c.is_empty.ensures ∙ c.if-is_empty.false in
    sym (c.steps.invariant.same ∙ begins-differs c.steps.left.now c.steps.right.now c.next_step-y.result.rest.now c.step_cmp-order.result (cc)
    (other_from_index _ (sym c.if-ne.true ∙ c.ne.ensures)) some c.next_step-y.ensures.rest)

pub steps-smaller : goal.steps-smaller
steps-smaller c =
    let some : is_nil c.next_step-y.result.rest.now ≡ false = is-nil-length c.next_step-y.result.rest.now ∙ sym c.is_empty.ensures ∙ c.if-is_empty.false in
    let there = step-nil c.steps.right.now (ap is_nil (sym c.next_step-y.ensures.rest) ∙ some) in
    let on : (not (is_nil c.steps.right.now) && (at_end c.steps.left.now && at_end c.steps.right.now)) ≡ false = sym c.both_go_on.ensures ∙ c.if-both_go_on.false in
    omega (arith, begins-shorter c.steps.left.now c.steps.right.now there on, ap length c.next_step-x.ensures.rest, ap length c.next_step-y.ensures.rest)

pub steps-preserved : goal.steps-preserved
steps-preserved c =
    let some : is_nil c.next_step-y.result.rest.now ≡ false = is-nil-length c.next_step-y.result.rest.now ∙ sym c.is_empty.ensures ∙ c.if-is_empty.false in
    record {
      same = c.steps.invariant.same ∙ begins-tied c.steps.left.now c.steps.right.now _ _ c.step_cmp-order.result (cc)
          (equal_from_index _ (sym c.if-ne.false ∙ c.ne.ensures)) some c.next_step-x.ensures.rest c.next_step-y.ensures.rest;
      left = c.next_step-x.ensures.narrow;
      right = c.next_step-y.ensures.narrow;
    }
