use Rattle.std.proofs.Common.{rules, ◌≡◌, ℕ, ◌<◌, length, ap, subst, ◌∙◌, Option}
use Rattle.std.specs.Prelude.{IfSome}
use Rattle.std.proofs.lemmas.List.{length-map}
use Rattle.closure_plan.specs.Plan.{Planned, leaf_of, leaves_of}
use Rattle.closure_plan.specs.Cells.{cell_at}
use Rattle.closure_plan.proofs.plan.Plan.leaf_at.Goals as goal

pub returns-in-Some-clause-within : goal.returns-in-Some-clause-within
returns-in-Some-clause-within g c =
    let read : cell_at c.self.inside.cells.items c.place_of.result ≡ c.in-Some.cell.now = search rules in
    let low = subst (λ (o : Option ℕ). IfSome o (λ i. i < length (leaves_of g.H.LeafHolder.contents c.self.inside.leaves.items))) read (c.self.invariant.1.within c.place_of.result) in
    subst (λ (k : ℕ). IfSome c.in-Some.cell.now (λ i. i < k))
    (length-map c.self.inside.leaves.items (leaf_of g.H.LeafHolder.contents) ∙ ap (λ (s : Planned _ _). length s.known.leaves) c.self.view_is) low
