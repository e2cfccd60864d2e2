use Rattle.std.proofs.Common.{◌≡◌, ◌∙◌, ◌<◌, List, [], ℕ, Some, Vec, Global, ap, arith, length, map, subst, sym}
use Rattle.std.specs.List.{slice_index_or}
use Rattle.std.proofs.lemmas.List.{get_or-map}
use Rattle.closure_plan.specs.Roots.{AreRoots, specs_at}
use Rattle.closure_plan.proofs.RootLemmas.{asked_known}
use Rattle.closure_plan.proofs.roots.Roots.asked.Goals as goal

pub returns-in-Some : goal.returns-in-Some
returns-in-Some c specs are =
    let k : ℕ = c.in-Some.k in
    let lists : List (List ℕ) = map (λ (v : Vec ℕ Global). v.items) c.self.inside.specs.items in
    let found = c.in-Some.ensures.some in
    let count = c.self.invariant in
    let below : k < length c.self.inside.specs.items = omega (arith, found.0, count) in
    let it : c.deref.result.now ≡ slice_index_or lists k []
    = c.deref.ensures.value ∙ ap (λ (v : Vec ℕ Global). v.items) c.index.ensures ∙ sym (get_or-map (λ (v : Vec ℕ Global). v.items) c.self.inside.specs.items k c.index.result.now [] below) in
    ap (λ (ks : List ℕ). Some (specs_at specs ks)) it
    ∙ asked_known specs (record { names = c.self.inside.names; specs = lists }) (subst (AreRoots specs (length specs)) (sym c.self.view_is) are) c.args.name.now k found.0 found.1
