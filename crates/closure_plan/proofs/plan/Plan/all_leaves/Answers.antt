use Rattle.std.proofs.Common.{◌≡◌, ◌∙◌, ◌<◌, length, map, flat_map, sym, ap, subst, arith, List, ℕ, true, false}
use Rattle.std.specs.List.{list_all}
use Rattle.closure_plan.specs.Closure.{reach}
use Rattle.closure_plan.specs.Needs.{Wish, is_given, shards_of}
use Rattle.closure_plan.specs.Plan.{Planned, its_pins, its_leaves, name_at}
use Rattle.closure_plan.proofs.LoopLemmas.{all_lists_passed, all_lists_failed, through}
use Rattle.closure_plan.proofs.OwingLemmas.{owing_all}
use Rattle.closure_plan.proofs.plan.Plan.all_leaves.Goals as goal

pub loop-i-init : goal.loop-i-init
loop-i-init g c =
    let now = c.args.self.now in
    let owing : List ℕ = c.self.inside.owing.items in
    ap (list_all (is_given (its_pins g.P.PinHolder.contents g.H.LeafHolder.contents now.known) (its_leaves g.P.PinHolder.contents g.H.LeafHolder.contents now.known))) (through (shards_of now.known.request (its_pins g.P.PinHolder.contents g.H.LeafHolder.contents now.known)) (name_at now.known.names) owing)
    ∙ subst (λ (s : Planned _ _). list_all (is_given (its_pins g.P.PinHolder.contents g.H.LeafHolder.contents s.known) (its_leaves g.P.PinHolder.contents g.H.LeafHolder.contents s.known)) (flat_map (shards_of s.known.request (its_pins g.P.PinHolder.contents g.H.LeafHolder.contents s.known)) (map (name_at s.known.names) owing)) ≡ list_all (is_given (its_pins g.P.PinHolder.contents g.H.LeafHolder.contents s.known) (its_leaves g.P.PinHolder.contents g.H.LeafHolder.contents s.known)) (flat_map (shards_of s.known.request (its_pins g.P.PinHolder.contents g.H.LeafHolder.contents s.known)) (reach s.known.request (its_pins g.P.PinHolder.contents g.H.LeafHolder.contents s.known) (its_leaves g.P.PinHolder.contents g.H.LeafHolder.contents s.known)))) c.self.view_is
    (owing_all g.P.PinHolder.contents g.H.LeafHolder.contents _ _ _ c.self.invariant.0 owing c.self.invariant.2)

pub returns-then-not-has_each : goal.returns-then-not-has_each
returns-then-not-has_each g c =
    let now = c.args.self.now in
    let order : List ℕ = c.self.inside.owing.items in
    let below : c.loop-i.i < length order = let a = c.loop-i-test.true in let b = c.len-i-end.ensures in let o = c.self.inside.owing.ok.0 in omega (arith, a, b, o) in
    let lists : ℕ → List Wish = λ k. shards_of now.known.request (its_pins g.P.PinHolder.contents g.H.LeafHolder.contents now.known) (name_at now.known.names k) in
    sym (all_lists_failed (is_given (its_pins g.P.PinHolder.contents g.H.LeafHolder.contents now.known) (its_leaves g.P.PinHolder.contents g.H.LeafHolder.contents now.known)) lists order c.loop-i.i c.index-n.result.now below
    (subst (λ k. list_all (is_given (its_pins g.P.PinHolder.contents g.H.LeafHolder.contents now.known) (its_leaves g.P.PinHolder.contents g.H.LeafHolder.contents now.known)) (lists k) ≡ false) c.index-n.ensures (sym c.has_each.ensures ∙ c.if-not-has_each.true)))
    ∙ c.loop-i.invariant

pub loop-i-preserved : goal.loop-i-preserved
loop-i-preserved g c =
    let now = c.args.self.now in
    let order : List ℕ = c.self.inside.owing.items in
    let below : c.loop-i.i < length order = let a = c.loop-i-test.true in let b = c.len-i-end.ensures in let o = c.self.inside.owing.ok.0 in omega (arith, a, b, o) in
    let lists : ℕ → List Wish = λ k. shards_of now.known.request (its_pins g.P.PinHolder.contents g.H.LeafHolder.contents now.known) (name_at now.known.names k) in
    sym (all_lists_passed (is_given (its_pins g.P.PinHolder.contents g.H.LeafHolder.contents now.known) (its_leaves g.P.PinHolder.contents g.H.LeafHolder.contents now.known)) lists order c.loop-i.i c.index-n.result.now below
    (subst (λ k. list_all (is_given (its_pins g.P.PinHolder.contents g.H.LeafHolder.contents now.known) (its_leaves g.P.PinHolder.contents g.H.LeafHolder.contents now.known)) (lists k) ≡ true) c.index-n.ensures (sym c.has_each.ensures ∙ c.if-not-has_each.false)))
    ∙ c.loop-i.invariant
