use Rattle.std.proofs.Common.{◌≢◌, ℕ, subst}
use Rattle.pass_book.specs.Lines.{HasLine}
use Rattle.flight_table.specs.Facts.{Facts}
use Rattle.flight_table.specs.Lines.{Apart, of_pass}
use Rattle.flight_table.specs.Tells.{Tells}
use Rattle.flight_table.proofs.CallLemmas.{tell_all}
use Rattle.flight_table.proofs.closing.Closing.tell.Goals as goal

pub invariant_of-self : goal.invariant_of-self
invariant_of-self g c = ((tell_all c.self.inside.was.value c.self.inside.book c.end_pass.new.book c.args.pass c.pass.inside.told c.pass.view_is c.end_pass.ensures.line c.self.invariant.0).so, c.self.invariant.1, c.self.invariant.2)

pub returns-clause-so : goal.returns-clause-so
returns-clause-so g c =
    subst (λ (a : Apart). Tells a.was c.args.pass) c.self.view_is (tell_all c.self.inside.was.value c.self.inside.book c.end_pass.new.book c.args.pass c.pass.inside.told c.pass.view_is c.end_pass.ensures.line c.self.invariant.0).told

pub returns-clause-stood : goal.returns-clause-stood
returns-clause-stood g c =
    subst (λ (a : Apart). (n : ℕ) × HasLine a.lines n (of_pass c.args.pass)) c.self.view_is (tell_all c.self.inside.was.value c.self.inside.book c.end_pass.new.book c.args.pass c.pass.inside.told c.pass.view_is c.end_pass.ensures.line c.self.invariant.0).stood

pub returns-clause-fewer : goal.returns-clause-fewer
returns-clause-fewer g c =
    subst (λ (a : Apart). (n : ℕ) (p : Facts) → HasLine c.end_pass.new.book n (of_pass p) → HasLine a.lines n (of_pass p) × (p.query ≢ c.args.pass.query)) c.self.view_is
    (tell_all c.self.inside.was.value c.self.inside.book c.end_pass.new.book c.args.pass c.pass.inside.told c.pass.view_is c.end_pass.ensures.line c.self.invariant.0).fewer
