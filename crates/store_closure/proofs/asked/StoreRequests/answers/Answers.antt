use Rattle.std.proofs.Common.{◌≡◌, ◌∙◌, ◌||◌, sym, ap, arith, rules}
use Rattle.store_closure.specs.Lines.{input_lines}
use Rattle.store_closure.specs.Stops.{bad_of}
use Rattle.store_closure.proofs.LoopLemmas.{goes_from, halts_from, over}
use Rattle.store_closure.proofs.asked.StoreRequests.answers.Goals as goal
use Rattle.store_closure.proofs.asked.StoreRequests.answers.Goals.{then-refused, else-refused}

pub returns-in_err-this-clause-bad : goal.returns-in_err-this-clause-bad
returns-in_err-this-clause-bad g c =
    let stop = halts_from c.args.self.now (input_lines c.args.input.now) c.lines.number (input_lines c.lines.left.now) c.lines.text.items c.lines.refused
    c.in-Some.line.now (input_lines c.in-Some.rest.now) c.in-Some.ensures.some (g.S.Store.files c.args.store.now) (g.S.Store.files c.lines.store)
    c.lines.invariant.1 c.lines.invariant.0 (bad_of c.in_err-this.field-0.0) c.in_err-this.ensures.bad in
    search rules

pub lines-preserved : goal.lines-preserved
lines-preserved g c =
    let on = goes_from c.args.self.now (input_lines c.args.input.now) c.lines.number (input_lines c.lines.left.now) c.lines.text.items c.lines.refused
    c.in-Some.line.now (input_lines c.in-Some.rest.now) c.in-Some.ensures.some (g.S.Store.files c.args.store.now) (g.S.Store.files c.lines.store)
    c.lines.invariant.1 c.lines.invariant.0 c.put_line.new.out.items c.in_ok-this.this c.in_ok-this.ensures.text in
    let is : c.if-refused.refused ≡ (c.lines.refused || c.in_ok-this.this) = elim c.if-refused.branch [
      | then-refused w ↦ w.refused-is ∙ w.if-refused.true ∙ sym (ap (λ b. b || c.in_ok-this.this) w.if-refused.true)
      | else-refused w ↦ w.refused-is ∙ sym (ap (λ b. b || c.in_ok-this.this) w.if-refused.false)
    ] in
    (rw (c.in_ok-number.ensures, is) on, c.put_line.ensures.same ∙ c.lines.invariant.1, let a = c.lines.invariant.2 in let b = c.put_line.ensures.later in omega (arith, a, b))

pub returns-clause-answered : goal.returns-clause-answered
returns-clause-answered g c =
    over c.args.self.now (input_lines c.args.input.now) c.lines.number (input_lines c.lines.left.now) c.lines.text.items c.lines.refused
    (g.S.Store.files c.args.store.now) c.lines.invariant.0 c.in_default.ensures.none
