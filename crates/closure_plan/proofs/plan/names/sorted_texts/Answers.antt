use Rattle.std.proofs.Common.{List, ℕ, map, subst}
use Rattle.std.specs.Borrow.{Bor}
use Rattle.std.specs.List.Sorted.{IsPermutation}
use Rattle.std.proofs.lemmas.List.Sorted.{IsPermutation-map}
use Rattle.closure_plan.proofs.plan.names.sorted_texts.Goals as goal

pub returns : goal.returns
returns c =
    subst (λ (texts : List (List ℕ)). IsPermutation texts (map (λ (t : Bor (List ℕ)). t.now) c.sort_unstable.new.self.items)) c.in_ok-texts.ensures
    (IsPermutation-map (λ (t : Bor (List ℕ)). t.now) c.in_ok-texts.texts.items c.sort_unstable.new.self.items c.sort_unstable.ensures.permutation)
