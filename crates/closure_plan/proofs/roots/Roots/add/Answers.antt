use Rattle.std.proofs.Common.{◌≡◌, ◌∙◌, ◌<◌, List, [], ℕ, Vec, Global, false, length, subst}
use Rattle.std.specs.List.{slice_index_or}
use Rattle.std.proofs.lemmas.List.{length-map}
use Rattle.closure_plan.specs.Names.{has_name}
use Rattle.closure_plan.specs.Roots.{Roots}
use Rattle.closure_plan.proofs.RootLemmas.{after_ok, known_added, new_added}
use Rattle.closure_plan.proofs.roots.Roots.add.Goals as goal

pub returns-in-Some : goal.returns-in-Some
returns-in-Some c =
    let k : ℕ = c.in-Some.k in
    let found = c.in-Some.ensures.some in
    let each : length c.args.self.now.specs ≡ length c.args.self.now.names
    = subst (λ (r : Roots). length r.specs ≡ length r.names) c.self.view_is (length-map c.self.inside.specs.items (λ (v : Vec ℕ Global). v.items) ∙ c.self.invariant) in
    let below : k < length c.args.self.now.names = subst (λ (r : Roots). k < length r.names) c.self.view_is found.0 in
    let is : slice_index_or c.args.self.now.names k [] ≡ c.args.name.now = subst (λ (r : Roots). slice_index_or r.names k [] ≡ c.args.name.now) c.self.view_is (found.1 ∙ c.as_str.ensures.value) in
    after_ok c.add_to.result _ _ (λ e specs here are. known_added specs c.args.spec c.args.name.now c.args.self.now c.add_to.new.self each here are k below is e) c.add_to.ensures

pub returns-in-None : goal.returns-in-None
returns-in-None c =
    let each : length c.args.self.now.specs ≡ length c.args.self.now.names
    = subst (λ (r : Roots). length r.specs ≡ length r.names) c.self.view_is (length-map c.self.inside.specs.items (λ (v : Vec ℕ Global). v.items) ∙ c.self.invariant) in
    let none : has_name c.args.self.now.names c.args.name.now ≡ false = subst (λ (r : Roots). has_name r.names c.args.name.now ≡ false) c.self.view_is (subst (λ (n : List ℕ). has_name c.self.inside.names n ≡ false) c.as_str.ensures.value c.in-None.ensures.none) in
    after_ok c.add_new.result _ _ (λ e specs here are. new_added specs c.args.spec c.args.name.now c.args.self.now c.add_new.new.self each here are none e) c.add_new.ensures
