use Rattle.std.proofs.Common.{◌≡◌, ◌∙◌, ◌<◌, ◌++◌, ◌∷◌, List, [], ℕ, Vec, Global, ap, arith, length, map, subst, sym}
use Rattle.std.specs.List.{slice_index_or, slice_set}
use Rattle.std.proofs.lemmas.List.{get_or-map, map-set}
use Rattle.closure_plan.specs.Roots.{Roots, with_spec}
use Rattle.closure_plan.proofs.roots.Roots.add_to.Goals as goal

pub returns : goal.returns
returns c =
    let k : ℕ = c.args.k in
    let lists : List (List ℕ) = map (λ (v : Vec ℕ Global). v.items) c.self.inside.specs.items in
    let below : k < length c.self.inside.specs.items = let bound : k < length c.self.inside.names = subst (λ (r : Roots). k < length r.names) (sym c.self.view_is) c.requires in let count = c.self.invariant in omega (arith, bound, count) in
    let it : c.push.new.self.items ≡ slice_index_or lists k [] ++ c.args.spec ∷ []
    = c.in_ok-push.ensures.items ∙ ap (λ (ks : List ℕ). ks ++ c.args.spec ∷ []) (ap (λ (v : Vec ℕ Global). v.items) c.index_mut.ensures.value ∙ sym (get_or-map (λ (v : Vec ℕ Global). v.items) c.self.inside.specs.items k c.index_mut.result.now [] below)) in
    ap (λ (ls : List (List ℕ)). record { names = c.self.inside.names; specs = ls }) (map-set (λ (v : Vec ℕ Global). v.items) c.self.inside.specs.items k c.push.new.self ∙ ap (slice_set lists k) it)
    ∙ ap (with_spec k c.args.spec) c.self.view_is
