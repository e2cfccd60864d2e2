use Rattle.std.proofs.Common.{map}
use Rattle.std.proofs.lemmas.Result.{on_ok_weaker}
use Rattle.conda_record.specs.View.{seen}
use Rattle.closure_plan.proofs.FreshLemmas.{grows_by_texts}
use Rattle.closure_plan.proofs.plan.Plan.add_many.Goals as goal

pub returns : goal.returns
returns g c =
    on_ok_weaker c.add_texts.result
    (grows_by_texts c.args.self.now.known.names c.args.fresh.now c.add_texts.new.fresh (seen c.args.view).depends (map (λ t. t.now) c.in_ok-texts.texts.items) c.in_ok-texts.ensures)
    (rw c.deref.ensures.value at c.add_texts.ensures)
