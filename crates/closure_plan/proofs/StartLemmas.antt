-- What is so of a plan at its start.
use Rattle.std.proofs.Common.{◌≡◌, ℕ, ◌+◌, ◌*◌, ◌<◌, ◌≤◌, true, false, cond, List, [], map, length, refl, sym, ◌∙◌, arith, Option}
use Rattle.std.specs.List.{All, IsDistinct}
use Rattle.std.proofs.lemmas.List.Elements.{All-nil}
use Rattle.std.proofs.lemmas.Map.Keys.{IsDistinct-from_apart}
use Rattle.std.specs.Prelude.{eqb}
use Rattle.shard_file.specs.Rows as shards
use Rattle.shard_index.specs.Index as indexes
use Rattle.closure_plan.specs.Names.{Name, is_name, has_name, ascending}
use Rattle.closure_request.specs.Request.{Asking, root_names}
use Rattle.closure_request.specs.Slots.{slots}
use Rattle.closure_plan.specs.Given.{Pins}
use Rattle.closure_plan.specs.Closure.{reach}
use Rattle.closure_plan.specs.Plan.{IsLeaf, IsNeed, is_same_leaf, same_need, has_given, name_at, pins_of}
use Rattle.closure_plan.specs.Inside.{Holds}
use Rattle.closure_plan.proofs.NameLemmas.{same_names, rises-ascending, has-ascending}

-- before the first leaf the root names are reached
pub reach_start : (r : Asking) (pins : Pins) → reach r pins [] ≡ ascending (root_names r)
reach_start r pins = elim r.flat as (λ b. cond b (ascending (root_names r)) (ascending (root_names r)) ≡ ascending (root_names r)) [ true ↦ refl | false ↦ refl ]

-- a plan whose names are the root names, each once
pub holds_new : {P H : Type 0} (pinned : P → indexes.Contents) (held : H → shards.Contents) (r : Asking) (names : List Name) (pins : List (Option P)) (by_name : List ℕ) (room : ℕ)
    → length pins ≡ length (slots r)
    → IsDistinct is_name names
    → ((q : Name) → has_name names q ≡ has_name (root_names r) q)
    → map (name_at names) by_name ≡ ascending names
    → All (λ k. k < length names) by_name
    → (length names + 1) * length (slots r) ≤ room
    → Holds pinned held (record { known = record { request = r; names = names; pins = pins; leaves = [] }; marked = [] }) by_name room
holds_new pinned held r names pins by_name room each distinct same order within wide = record {
  keeps = record {
    reached = record {
      each_slot = each;
      distinct = distinct;
      all_reached = same_names (ascending names) (ascending (root_names r)) (rises-ascending names) (rises-ascending (root_names r)) (λ q. has-ascending q names ∙ same q ∙ sym (has-ascending q (root_names r))) ∙ sym (reach_start r (pins_of pinned pins));
      leaves = All-nil (IsLeaf held r (pins_of pinned pins) names);
      one_leaf = IsDistinct-from_apart is_same_leaf [] (λ i j d l m. absurd (omega arith));
    };
    marks = All-nil (IsNeed r (pins_of pinned pins) names);
    not_given = All-nil (λ m. has_given pinned held (record { request = r; names = names; pins = pins; leaves = [] }) m ≡ false);
    once = IsDistinct-from_apart same_need [] (λ i j d l m. absurd (omega arith));
  };
  order = order;
  within = within;
  apart = IsDistinct-from_apart eqb [] (λ i j d l m. absurd (omega arith));
  room = wide;
}
