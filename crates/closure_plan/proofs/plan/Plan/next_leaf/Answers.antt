use Rattle.std.proofs.Common.{◌≡◌, ◌∙◌, ◌<◌, length, map, flat_map, find, sym, ap, subst, arith, List, ℕ, Some, None}
use Rattle.closure_plan.specs.Closure.{reach}
use Rattle.closure_plan.specs.Needs.{Wish, the_shard, shards_of}
use Rattle.closure_plan.specs.Plan.{Planned, may_ask, its_pins, its_leaves, name_at}
use Rattle.closure_plan.proofs.LoopLemmas.{lists_passed, lists_stop, through}
use Rattle.closure_plan.proofs.OwingLemmas.{owing_find}
use Rattle.closure_plan.proofs.plan.Plan.next_leaf.Goals as goal

pub loop-i-init : goal.loop-i-init
loop-i-init g c =
    let now = c.args.self.now in
    let owing : List ℕ = c.self.inside.owing.items in
    ap (find (may_ask g.P.PinHolder.contents g.H.LeafHolder.contents now)) (through (shards_of now.known.request (its_pins g.P.PinHolder.contents g.H.LeafHolder.contents now.known)) (name_at now.known.names) owing)
    ∙ subst (λ (s : Planned _ _). find (may_ask g.P.PinHolder.contents g.H.LeafHolder.contents s) (flat_map (shards_of s.known.request (its_pins g.P.PinHolder.contents g.H.LeafHolder.contents s.known)) (map (name_at s.known.names) owing)) ≡ find (may_ask g.P.PinHolder.contents g.H.LeafHolder.contents s) (flat_map (shards_of s.known.request (its_pins g.P.PinHolder.contents g.H.LeafHolder.contents s.known)) (reach s.known.request (its_pins g.P.PinHolder.contents g.H.LeafHolder.contents s.known) (its_leaves g.P.PinHolder.contents g.H.LeafHolder.contents s.known)))) c.self.view_is
    (owing_find g.P.PinHolder.contents g.H.LeafHolder.contents _ _ _ c.self.invariant.0 owing c.self.invariant.2)

pub returns-in-Some-clause-find : goal.returns-in-Some-clause-find
returns-in-Some-clause-find g c =
    let now = c.args.self.now in
    let order : List ℕ = c.self.inside.owing.items in
    let below : c.loop-i.i < length order = let a = c.loop-i-test.true in let b = c.len-i-end.ensures in let o = c.self.inside.owing.ok.0 in omega (arith, a, b, o) in
    let lists : ℕ → List Wish = λ k. shards_of now.known.request (its_pins g.P.PinHolder.contents g.H.LeafHolder.contents now.known) (name_at now.known.names k) in
    sym (lists_stop (may_ask g.P.PinHolder.contents g.H.LeafHolder.contents now) lists order c.loop-i.i c.index-n.result.now (the_shard c.in-Some.slot (name_at now.known.names c.index-n.result.now)) below
    (subst (λ k. Some (the_shard c.in-Some.slot (name_at now.known.names c.index-n.result.now)) ≡ find (may_ask g.P.PinHolder.contents g.H.LeafHolder.contents now) (lists k)) c.index-n.ensures c.in-Some.ensures.find))
    ∙ c.loop-i.invariant

pub loop-i-preserved : goal.loop-i-preserved
loop-i-preserved g c =
    let now = c.args.self.now in
    let order : List ℕ = c.self.inside.owing.items in
    let below : c.loop-i.i < length order = let a = c.loop-i-test.true in let b = c.len-i-end.ensures in let o = c.self.inside.owing.ok.0 in omega (arith, a, b, o) in
    let lists : ℕ → List Wish = λ k. shards_of now.known.request (its_pins g.P.PinHolder.contents g.H.LeafHolder.contents now.known) (name_at now.known.names k) in
    sym (lists_passed (may_ask g.P.PinHolder.contents g.H.LeafHolder.contents now) lists order c.loop-i.i c.index-n.result.now below
    (subst (λ k. None ≡ find (may_ask g.P.PinHolder.contents g.H.LeafHolder.contents now) (lists k)) c.index-n.ensures c.in_default.ensures.find))
    ∙ c.loop-i.invariant

pub next_slot-requires : goal.next_slot-requires
next_slot-requires g c =
    let order : List ℕ = c.self.inside.owing.items in
    let below : c.loop-i.i < length order = let a = c.loop-i-test.true in let b = c.len-i-end.ensures in let o = c.self.inside.owing.ok.0 in omega (arith, a, b, o) in
    let inside = c.self.invariant.2.within c.loop-i.i c.index-n.result.now below in
    subst (λ (s : Planned _ _). c.index-n.result.now < length s.known.names) c.self.view_is (subst (λ k. k < length c.self.inside.names.items) (sym c.index-n.ensures) inside)
