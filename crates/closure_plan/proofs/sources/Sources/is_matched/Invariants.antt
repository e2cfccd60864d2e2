use Rattle.std.proofs.Common.{◌≡◌, drop}
use Rattle.std.specs.List.{list_any}
use Rattle.shard_file.specs.Seen.{row_seen}
use Rattle.closure_plan.specs.Given.{hits}
use Rattle.closure_plan.specs.Roots.{specs_at}
use Rattle.closure_plan.proofs.sources.Sources.is_matched.Given as goal

abbrev pub invariant-loop-k : goal.invariant-loop-k
invariant-loop-k g l = list_any (hits l.self.request l.slot (row_seen l.row)) (specs_at l.self.request.specs (drop l.k-index l.numbers)) ≡ list_any (hits l.self.request l.slot (row_seen l.row)) (specs_at l.self.request.specs l.numbers)
