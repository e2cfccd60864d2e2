use Rattle.std.proofs.Common.{◌≡◌, sym, ◌∙◌, ap, ℕ, ◌+◌, ◌-◌, ◌<◌, ◌^◌, length, arith}
use Rattle.gateway_words.specs.Places.{Position}
use Rattle.mp_codec.specs.Reading.{values_from}
use Rattle.mp_codec.proofs.CursorLemmas.{PassedNode, passed_node, failed_node}
use Rattle.mp_codec.proofs.OwedLemmas.{capped}
use Rattle.mp_codec.proofs.PassingLemmas.{values_none}
use Rattle.mp_codec.proofs.cursor.Cursor.behind_value.Goals as goal

pub loop-owed-smaller-then-pass_common_leaf : goal.loop-owed-smaller-then-pass_common_leaf
loop-owed-smaller-then-pass_common_leaf c = (passed_node c.loop-owed.ahead c.pass_common_leaf.new.self 0 c.if-pass_common_leaf.ensures).shrinks

pub loop-owed-preserved-then-pass_common_leaf : goal.loop-owed-preserved-then-pass_common_leaf
loop-owed-preserved-then-pass_common_leaf c =
    let node : PassedNode c.loop-owed.ahead c.pass_common_leaf.new.self 0 = passed_node c.loop-owed.ahead c.pass_common_leaf.new.self 0 c.if-pass_common_leaf.ensures in
    let shrinks : length c.pass_common_leaf.new.self.left < length c.loop-owed.ahead.left = node.shrinks in
    let one_less : c.loop-owed.owed - 1 ≡ c.loop-owed.owed - 1 + 0 = omega arith in (
      ap (λ (k : ℕ). values_from k c.pass_common_leaf.new.self) one_less ∙ sym (node.goes_on c.loop-owed.owed c.loop-owed-test.true) ∙ c.loop-owed.invariant.0,
      omega arith,
      c.loop-owed.invariant.2,
    )

pub loop-owed-smaller : goal.loop-owed-smaller
loop-owed-smaller c =
    let same : c.copy-behind.result ≡ c.loop-owed.ahead = c.copy-behind.ensures.same ∙ c.if-pass_common_leaf.ensures in
    let size : length c.copy-behind.result.left ≡ length c.loop-owed.ahead.left = ap (λ (p : Position). length p.left) same in
    let shrinks : length c.next_node.new.self.left < length c.copy-behind.result.left = (passed_node c.copy-behind.result c.next_node.new.self c.in-Ok.parts c.in-Ok.ensures).shrinks in
    omega arith

pub loop-owed-preserved : goal.loop-owed-preserved
loop-owed-preserved c =
    let same : c.copy-behind.result ≡ c.loop-owed.ahead = c.copy-behind.ensures.same ∙ c.if-pass_common_leaf.ensures in
    let size : length c.copy-behind.result.left ≡ length c.loop-owed.ahead.left = ap (λ (p : Position). length p.left) same in
    let node : PassedNode c.copy-behind.result c.next_node.new.self c.in-Ok.parts = passed_node c.copy-behind.result c.next_node.new.self c.in-Ok.parts c.in-Ok.ensures in
    let shrinks : length c.next_node.new.self.left < length c.copy-behind.result.left = node.shrinks in
    let some : 0 < c.loop-owed.owed = c.loop-owed-test.true in
    let room : length c.next_node.new.self.left < 2 ^ 64 - 1 = omega arith in (
      ap (λ (k : ℕ). values_from k c.next_node.new.self) c.saturating_add-owed.ensures
          ∙ capped (c.loop-owed.owed - 1 + c.in-Ok.parts) (2 ^ 64 - 1) c.next_node.new.self room
          ∙ sym (node.goes_on c.loop-owed.owed some) ∙ ap (λ (p : Position). values_from c.loop-owed.owed p) same ∙ c.loop-owed.invariant.0,
      omega arith,
      c.loop-owed.invariant.2,
    )

pub returns-in-Err : goal.returns-in-Err
returns-in-Err c =
    let same : c.copy-behind.result ≡ c.loop-owed.ahead = c.copy-behind.ensures.same ∙ c.if-pass_common_leaf.ensures in
    sym (failed_node c.copy-behind.result c.next_node.new.self c.in-Err.fault c.in-Err.ensures c.loop-owed.owed c.loop-owed-test.true)
    ∙ ap (λ (p : Position). values_from c.loop-owed.owed p) same ∙ c.loop-owed.invariant.0

pub returns : goal.returns
returns c =
    let none : c.loop-owed.owed ≡ 0 = omega arith in
    sym (values_none c.loop-owed.ahead) ∙ ap (λ (k : ℕ). values_from k c.loop-owed.ahead) (sym none) ∙ c.loop-owed.invariant.0
