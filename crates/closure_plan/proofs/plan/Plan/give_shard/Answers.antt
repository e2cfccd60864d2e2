use Rattle.std.proofs.Common.{◌≡◌, ◌∙◌, ◌+◌, ◌*◌, ◌≤◌, List, ℕ, length, ◌++◌, ◌∷◌, [], sym, ap, subst, arith, rules}
use Rattle.std.specs.Prelude.{vec_capacity}
use Rattle.std.proofs.lemmas.Fn.{filter_same}
use Rattle.std.proofs.lemmas.List.{length-append}
use Rattle.shard_file.specs.Rows as shards
use Rattle.closure_plan.specs.declared.need.Need.TheVariants as need
use Rattle.closure_plan.specs.Owing.{Owes}
use Rattle.closure_plan.specs.Plan.{Planned, its_pins, pins_of, digest_of_need, has_need, without}
use Rattle.closure_request.specs.Slots.{slots}
use Rattle.closure_plan.specs.Fresh.{IsOrder}
use Rattle.closure_plan.specs.Ready.{IsReady}
use Rattle.closure_plan.proofs.ReadyLemmas.{holds_ready, cells_ready, order_ready, owing_ready, place_ready}
use Rattle.closure_plan.proofs.plan.Plan.give_shard.Goals as goal

pub index_mut-requires : goal.index_mut-requires
index_mut-requires g c =
    let inside = c.self.inside in
    let ready = c.in_ok-ready.ready in
    let marked = ap (λ (s : Planned _ _). has_need s.marked (need.Shard c.args.slot c.args.n)) c.self.view_is ∙ c.requires.marked in
    let digest = ap (λ (s : Planned _ _). digest_of_need s.known.request (its_pins g.P.PinHolder.contents g.H.LeafHolder.contents s.known) s.known.names (need.Shard c.args.slot c.args.n)) c.self.view_is ∙ c.requires.digest in
    let is_ready = subst (λ (s : Planned _ _). IsReady s.known.request s.known.names c.args.slot c.args.n (g.H.LeafHolder.contents c.args.holder).rows ready) (sym c.self.view_is)
    (subst (λ (x : shards.Contents). IsReady c.args.self.now.known.request c.args.self.now.known.names c.args.slot c.args.n x.rows ready) (c.shard.ensures ∙ c.leaf.ensures) c.in_ok-ready.ensures) in
    let place : c.place_of-place.result ≡ c.args.n * length (slots inside.sources.request) + c.args.slot = c.place_of-place.ensures ∙ ap (λ (s : Planned _ _). c.args.n * length (slots s.known.request) + c.args.slot) (sym c.self.view_is) in
    let below = place_ready g.P.PinHolder.contents g.H.LeafHolder.contents _ _ _ c.self.invariant.0 c.args.slot c.args.n marked c.args.holder digest ready is_ready (length c.grow.new.cells.items) c.in_ok-grow.ensures.wide in
    let len = c.grow.new.cells.ok.0 in
    omega (arith, below, len, place)

pub invariant_of-self-2 : goal.invariant_of-self-2
invariant_of-self-2 g c =
    let inside = c.self.inside in
    let ready = c.in_ok-ready.ready in
    let marked = ap (λ (s : Planned _ _). has_need s.marked (need.Shard c.args.slot c.args.n)) c.self.view_is ∙ c.requires.marked in
    let digest = ap (λ (s : Planned _ _). digest_of_need s.known.request (its_pins g.P.PinHolder.contents g.H.LeafHolder.contents s.known) s.known.names (need.Shard c.args.slot c.args.n)) c.self.view_is ∙ c.requires.digest in
    let is_ready = subst (λ (s : Planned _ _). IsReady s.known.request s.known.names c.args.slot c.args.n (g.H.LeafHolder.contents c.args.holder).rows ready) (sym c.self.view_is)
    (subst (λ (x : shards.Contents). IsReady c.args.self.now.known.request c.args.self.now.known.names c.args.slot c.args.n x.rows ready) (c.shard.ensures ∙ c.leaf.ensures) c.in_ok-ready.ensures) in
    let names : c.append.new.self.items ≡ inside.names.items ++ ready.fresh.items = c.in_ok-append.ensures.items in
    let leaves : c.push_reserved.new.self.items ≡ inside.leaves.items ++ record { slot = c.args.slot; name = ready.name; holder = c.args.holder } ∷ []
    = c.push_reserved.ensures.items ∙ ap (λ ls. ls ++ record { slot = c.args.slot; name = ready.name; holder = c.args.holder } ∷ []) c.in_ok-reserve-2.ensures.items in
    let marks : c.retain.new.self.items ≡ without (need.Shard c.args.slot c.args.n) inside.marks.items
    = filter_same _ _ _ (λ x b f' k. search rules) _ _ c.retain.ensures.filtered ∙ ap (without (need.Shard c.args.slot c.args.n)) c.in_ok-reserve.ensures.items in
    let wide : ready.room ≤ vec_capacity c.retain.new.self = let a = c.in_ok-reserve.ensures.ok in let b = c.retain.ensures.capacity in omega (arith, a, b) in
    let place : c.place_of-place.result ≡ c.args.n * length (slots inside.sources.request) + c.args.slot = c.place_of-place.ensures ∙ ap (λ (s : Planned _ _). c.args.n * length (slots s.known.request) + c.args.slot) (sym c.self.view_is) in
    let listed : c.len-listed.result ≡ length inside.names.items = search rules in
    let put = rw (c.deref.ensures.value, names, listed, c.in_ok-reserve-3.ensures.items) at c.put_numbers.ensures in
    let low : length inside.names.items ≤ length (inside.names.items ++ ready.fresh.items) = let l = length-append inside.names.items ready.fresh.items in omega (arith, l) in
    let order : IsOrder (inside.names.items ++ ready.fresh.items) (inside.names.items ++ ready.fresh.items) c.put_numbers.new.order.items
    = order_ready g.P.PinHolder.contents g.H.LeafHolder.contents _ _ _ c.self.invariant.0 c.args.slot c.args.n marked c.args.holder digest ready is_ready c.put_numbers.new.order.items (put low) in
    let owes : Owes inside.sources.request (pins_of g.P.PinHolder.contents inside.sources.pins) (inside.names.items ++ ready.fresh.items) (length inside.names.items) (length (inside.names.items ++ ready.fresh.items)) inside.owing.items c.put_owed.new.owing.items
    = rw (c.deref-2.ensures.value, names, listed, c.in_ok-reserve-4.ensures.items) at c.put_owed.ensures in
    let count : c.len-3.result ≡ length inside.leaves.items = search rules in (
      rw (names, leaves, marks) (holds_ready g.P.PinHolder.contents g.H.LeafHolder.contents _ _ _ c.self.invariant.0 c.args.slot c.args.n marked c.args.holder digest ready is_ready c.put_numbers.new.order.items (vec_capacity c.retain.new.self) order wide),
      rw (names, leaves) (cells_ready g.P.PinHolder.contents g.H.LeafHolder.contents _ _ _ c.self.invariant.0 c.args.slot c.args.n marked c.args.holder digest ready is_ready inside.cells.items c.grow.new.cells.items c.self.invariant.1 c.grow.ensures.same c.in_ok-grow.ensures.wide c.place_of-place.result c.len-3.result place count),
      rw (names, leaves) (owing_ready g.P.PinHolder.contents g.H.LeafHolder.contents _ _ _ c.self.invariant.0 c.args.slot c.args.n marked c.args.holder digest ready is_ready inside.owing.items c.put_owed.new.owing.items c.self.invariant.2 owes),
    )

pub returns-clause-ok : goal.returns-clause-ok
returns-clause-ok g c =
    let inside = c.self.inside in
    let ready = c.in_ok-ready.ready in
    let names : c.append.new.self.items ≡ c.args.self.now.known.names ++ ready.fresh.items = c.in_ok-append.ensures.items ∙ ap (λ (s : Planned _ _). s.known.names ++ ready.fresh.items) c.self.view_is in
    record {
      request = ap (λ (s : Planned _ _). s.known.request) c.self.view_is;
      pins = ap (λ (s : Planned _ _). s.known.pins) c.self.view_is;
      leaves = c.push_reserved.ensures.items ∙ ap (λ ls. ls ++ record { slot = c.args.slot; name = ready.name; holder = c.args.holder } ∷ []) (c.in_ok-reserve-2.ensures.items ∙ ap (λ (s : Planned _ _). s.known.leaves) c.self.view_is)
          ∙ ap (λ n. c.args.self.now.known.leaves ++ record { slot = c.args.slot; name = n; holder = c.args.holder } ∷ []) c.in_ok-ready.ensures.name;
      fresh = ready.fresh.items;
      names = names;
    }

pub returns-clause-unmarked : goal.returns-clause-unmarked
returns-clause-unmarked g c =
    filter_same _ _ _ (λ x b f' k. search rules) _ _ c.retain.ensures.filtered ∙ ap (without (need.Shard c.args.slot c.args.n)) c.in_ok-reserve.ensures.items
    ∙ ap (λ (s : Planned _ _). without (need.Shard c.args.slot c.args.n) s.marked) c.self.view_is
