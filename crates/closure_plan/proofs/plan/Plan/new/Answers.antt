use Rattle.std.proofs.Common.{◌≡◌, ◌∙◌, ◌+◌, ◌*◌, ◌≤◌, [], refl, sym, ap, subst, List, ℕ, length, map, flat_map, arith}
use Rattle.std.specs.Prelude.{vec_capacity}
use Rattle.std.specs.List.{All, IsDistinct, range_with_len}
use Rattle.std.proofs.lemmas.List.{length-map}
use Rattle.std.proofs.lemmas.List.Elements.{All-from_recursion}
use Rattle.std.proofs.lemmas.Map.Keys.{IsDistinct-from_apart}
use Rattle.closure_plan.specs.declared.sources.Place.{Place}
use Rattle.closure_plan.specs.Names.{is_name, has_name}
use Rattle.match_spec.specs.Parts.{Meaning}
use Rattle.closure_request.specs.Request.{Asking, root_names, root_names_of}
use Rattle.closure_request.specs.Slots.{slots}
use Rattle.closure_plan.specs.Fresh.{IsOrder}
use Rattle.closure_plan.specs.Roots.{AreRoots}
use Rattle.closure_plan.specs.Sources.{IsWithin, slot_of}
use Rattle.closure_plan.specs.Start.{places_in, unpinned}
use Rattle.closure_plan.proofs.SlotLemmas.{all_within, places_are, unpinned_length}
use Rattle.closure_plan.specs.Plan.{pins_of}
use Rattle.closure_plan.proofs.CellLemmas.{no_cells}
use Rattle.closure_plan.proofs.OwingLemmas.{owing_each}
use Rattle.closure_plan.proofs.StartLemmas.{holds_new}
use Rattle.closure_plan.proofs.plan.Plan.new.Goals as goal

pub invariant_of-result : goal.invariant_of-result
invariant_of-result g c =
    let r : Asking = c.args.request in
    let inside = c.request.inside in
    let places : List Place = c.in_ok-places.places.items in
    let channels : c.len.result ≡ length r.channels = let a = c.len.ensures in let b = inside.channels.ok.0 in let d = ap (λ (a : Asking). length a.channels) c.request.view_is in omega (arith, a, b, d) in
    let subdirs : c.len-2.result ≡ length r.subdirs = let a = c.len-2.ensures in let b = inside.subdirs.ok.0 in let d = ap (λ (a : Asking). length a.subdirs) c.request.view_is in omega (arith, a, b, d) in
    let is : places ≡ flat_map (places_in (length r.subdirs)) (range_with_len 0 (length r.channels))
    = c.in_ok-places.ensures ∙ ap (λ m. flat_map (places_in m) (range_with_len 0 c.len.result)) subdirs ∙ ap (λ n. flat_map (places_in (length r.subdirs)) (range_with_len 0 n)) channels in
    let are : map (slot_of r) places ≡ slots r = ap (map (slot_of r)) is ∙ places_are r in
    let count : length places ≡ length (slots r) = sym (length-map places (slot_of r)) ∙ ap length are in
    let pins_count : c.len-3.result ≡ length (slots r) = let a = c.len-3.ensures in let b = c.in_ok-places.places.ok.0 in omega (arith, a, b, count) in
    let within : All (IsWithin (length r.channels) (length r.subdirs)) places
    = subst (All (IsWithin (length r.channels) (length r.subdirs))) (sym is) (All-from_recursion (IsWithin (length r.channels) (length r.subdirs)) (flat_map (places_in (length r.subdirs)) (range_with_len 0 (length r.channels))) (all_within (length r.subdirs) (length r.channels))) in (
      are,
      ap length c.in_ok-pins.ensures ∙ unpinned_length _ c.len-3.result ∙ pins_count,
      within,
      subst (λ (specs : List Meaning). AreRoots specs (length specs) c.in_ok-asked.asked) (c.deref-4.ensures.value ∙ ap (λ (a : Asking). a.specs) c.request.view_is) c.in_ok-asked.ensures,
    )

pub invariant_of-result-2 : goal.invariant_of-result-2
invariant_of-result-2 g c =
    let r : Asking = c.args.request in
    let inside = c.request.inside in
    let places : List Place = c.in_ok-places.places.items in
    let names : List (List ℕ) = c.in_ok-names.names.items in
    let channels : c.len.result ≡ length r.channels = let a = c.len.ensures in let b = inside.channels.ok.0 in let d = ap (λ (a : Asking). length a.channels) c.request.view_is in omega (arith, a, b, d) in
    let subdirs : c.len-2.result ≡ length r.subdirs = let a = c.len-2.ensures in let b = inside.subdirs.ok.0 in let d = ap (λ (a : Asking). length a.subdirs) c.request.view_is in omega (arith, a, b, d) in
    let are : map (slot_of r) places ≡ slots r
    = ap (map (slot_of r)) (c.in_ok-places.ensures ∙ ap (λ m. flat_map (places_in m) (range_with_len 0 c.len.result)) subdirs ∙ ap (λ n. flat_map (places_in (length r.subdirs)) (range_with_len 0 n)) channels) ∙ places_are r in
    let count : length places ≡ length (slots r) = sym (length-map places (slot_of r)) ∙ ap length are in
    let pins_count : c.len-3.result ≡ length (slots r) = let a = c.len-3.ensures in let b = c.in_ok-places.places.ok.0 in omega (arith, a, b, count) in
    let pins : length c.in_ok-pins.pins.items ≡ length (slots r) = ap length c.in_ok-pins.ensures ∙ unpinned_length _ c.len-3.result ∙ pins_count in
    let grows = c.in_ok-names.ensures in
    let same : (q : List ℕ) → has_name names q ≡ has_name (root_names r) q = λ q. grows.members q ∙ ap (λ s. has_name (root_names_of s) q) (c.deref.ensures.value ∙ ap (λ (a : Asking). a.specs) c.request.view_is) in
    let distinct : IsDistinct is_name names = grows.distinct (IsDistinct-from_apart is_name [] (λ i j d l m. absurd (omega arith))) in
    let order : IsOrder names names c.in_ok-order.order.items = subst (λ ns. IsOrder ns ns c.in_ok-order.order.items) c.deref-2.ensures.value c.in_ok-order.ensures in
    let owing : IsOrder names names c.in_ok-owing.owing.items = subst (IsOrder names names) (sym (c.in_ok-owing.ensures.items ∙ c.deref-3.ensures.value)) order in
    let slots_count : c.len-4.result ≡ length (slots r) = let a = c.len-4.ensures in let b = c.in_ok-places.places.ok.0 in omega (arith, a, b, count) in
    let names_count : c.len-5.result + 0 ≡ length names = let a = c.len-5.ensures in let b = c.in_ok-names.names.ok.0 in omega (arith, a, b) in
    let room : vec_capacity c.in_ok-marks.marks ≡ (length names + 1) * length (slots r) = c.in_ok-marks.ensures.exact ∙ c.in_ok-room.ensures ∙ ap (λ n. (n + 1) * c.len-4.result) names_count ∙ ap (λ m. (length names + 1) * m) slots_count in
    let wide : (length names + 1) * length (slots r) ≤ vec_capacity c.in_ok-marks.marks = subst (λ n. (length names + 1) * length (slots r) ≤ n) (sym room) (omega arith) in (
      rw (c.new.ensures.items, c.in_ok-marks.ensures.items)
          (holds_new g.P.PinHolder.contents g.H.LeafHolder.contents r names c.in_ok-pins.pins.items c.in_ok-order.order.items (vec_capacity c.in_ok-marks.marks) pins distinct same order.is order.within wide),
      rw (c.new.ensures.items, c.new-2.ensures.items) (no_cells (length (slots r)) names),
      rw c.new.ensures.items (owing_each r (pins_of g.P.PinHolder.contents c.in_ok-pins.pins.items) names [] c.in_ok-owing.owing.items owing.is owing.within),
    )

pub returns : goal.returns
returns g c =
    let r : Asking = c.args.request in
    let inside = c.request.inside in
    let places : List Place = c.in_ok-places.places.items in
    let channels : c.len.result ≡ length r.channels = let a = c.len.ensures in let b = inside.channels.ok.0 in let d = ap (λ (a : Asking). length a.channels) c.request.view_is in omega (arith, a, b, d) in
    let subdirs : c.len-2.result ≡ length r.subdirs = let a = c.len-2.ensures in let b = inside.subdirs.ok.0 in let d = ap (λ (a : Asking). length a.subdirs) c.request.view_is in omega (arith, a, b, d) in
    let are : map (slot_of r) places ≡ slots r
    = ap (map (slot_of r)) (c.in_ok-places.ensures ∙ ap (λ m. flat_map (places_in m) (range_with_len 0 c.len.result)) subdirs ∙ ap (λ n. flat_map (places_in (length r.subdirs)) (range_with_len 0 n)) channels) ∙ places_are r in
    let count : length places ≡ length (slots r) = sym (length-map places (slot_of r)) ∙ ap length are in
    let pins_count : c.len-3.result ≡ length (slots r) = let a = c.len-3.ensures in let b = c.in_ok-places.places.ok.0 in omega (arith, a, b, count) in
    record {
      request = refl;
      pins = c.in_ok-pins.ensures ∙ ap (λ n. unpinned n) pins_count;
      leaves = c.new.ensures.items;
      marked = c.in_ok-marks.ensures.items;
    }
