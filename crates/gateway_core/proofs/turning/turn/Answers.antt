use Rattle.std.proofs.Common.{◌≡◌, ◌∙◌, sym, ap, subst, true, false, Bool, not, Some, List, refl, ℕ}
use Rattle.closure_plan.specs.declared.need.Need.{Need}
use Rattle.flight_table.specs.Facts.{Facts}
use Rattle.query_future.specs.Queries.{Stood}
use Rattle.query_future.specs.Stands.{Carries}
use Rattle.gateway_core.proofs.turning.turn.Goals as goal

not_true : (b : Bool) → not b ≡ true → b ≡ false
not_true false e = refl
not_true true e = sym e

pub returns-then-is_over : goal.returns-then-is_over
returns-then-is_over g c =
    let p = c.finished-pass.ensures.pass in
    let y = c.finished-pass.ensures.finishes in
    let f = c.finished-pass.result.1 in (
      subst (λ (z : Facts). Carries c.args.table.now c.section-did.new.table c.args.query.track.pass z) (sym p) c.section-did.ensures.carries,
      record {
        closed = ap (λ (z : Facts). z.live) p ∙ not_true c.section-did.new.query.track.pass.live (sym c.is_over.ensures ∙ c.if-is_over.true);
        query = y.query ∙ ap (λ (z : Facts). Some z.query) (sym p);
        calls = y.calls ∙ ap (λ (z : Facts). z.calls) (sym p);
        stood = subst (λ (z : Facts). Stood g.D.Link.Conn.facts g.D.Link.Conn.from f.outcome z f.asked.items f.again) (sym p)
            (subst (λ (z : List Need). Stood g.D.Link.Conn.facts g.D.Link.Conn.from f.outcome c.section-did.new.query.track.pass z f.again) (sym y.asked)
            (subst (λ (z : ℕ). Stood g.D.Link.Conn.facts g.D.Link.Conn.from f.outcome c.section-did.new.query.track.pass c.section-did.new.query.track.asked z) (sym y.again) y.stood));
      },
      λ r h. y.request r (c.section-did.ensures.request r h),
    )
