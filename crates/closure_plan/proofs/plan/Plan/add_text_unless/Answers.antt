use Rattle.std.proofs.Common.{◌∙◌, sym}
use Rattle.conda_record.specs.View.{seen}
use Rattle.closure_plan.proofs.FreshLemmas.{known_text}
use Rattle.closure_plan.proofs.plan.Plan.add_text_unless.Goals as goal

pub returns-then-stands_in : goal.returns-then-stands_in
returns-then-stands_in g c = known_text c.args.before (λ v. (seen v).depends) c.args.self.now.known.names c.args.fresh.now c.args.i c.args.text.now c.requires (sym c.stands_in.ensures ∙ c.if-stands_in.true)
