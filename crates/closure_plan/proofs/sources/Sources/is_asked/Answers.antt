use Rattle.std.proofs.Common.{◌∙◌, List, ℕ, Some, ap, sym}
use Rattle.std.specs.Borrow.{Bor}
use Rattle.std.specs.Option.{option_map}
use Rattle.shard_file.specs.Seen.{row_seen}
use Rattle.closure_request.specs.Request.{Asking}
use Rattle.closure_plan.specs.Roots.{specs_at}
use Rattle.closure_plan.proofs.RootLemmas.{asked_by}
use Rattle.closure_plan.proofs.sources.Sources.is_asked.Goals as goal

pub returns-in-Some : goal.returns-in-Some
returns-in-Some g c =
    let r : Asking = c.args.self.now.request in
    c.is_matched.ensures
    ∙ asked_by r c.args.slot (row_seen c.args.row) c.args.name.now c.requires.name (Some (specs_at r.specs c.in-Some.numbers.now))
    (ap (option_map (λ (numbers : Bor (List ℕ)). specs_at r.specs numbers.now)) (sym c.in-Some.is) ∙ c.requires.asked)
