-- What stays so of a plan at each of its calls.
use Rattle.std.proofs.Common.{◌≡◌, ℕ, zero, suc, ◌<◌, Bool, true, false, ◌==◌, not, List, [], ◌∷◌, ◌++◌, map, length, refl, sym, ap, ◌∙◌, true≢false, arith, Option, Some, None}
use Rattle.std.specs.Prelude.{is_some, eqb}
use Rattle.std.specs.List.{AllByRecursion, IsDistinct, slice_set, slice_index_or}
use Rattle.std.specs.Option.{option_map}
use Rattle.std.specs.Cmp.{unsigned_Decides}
use Rattle.std.proofs.lemmas.List.{length-map, length-set}
use Rattle.std.proofs.lemmas.List.Elements.{All-push, All-filter, recursion_from_All, All-weaker, All-map, filter_passes}
use Rattle.digest_gate.specs.Digest.{digest_of}
use Rattle.shard_file.specs.Rows as shards
use Rattle.shard_index.specs.Index as indexes
use Rattle.closure_plan.specs.declared.need.Need.{Need}
use Rattle.closure_plan.specs.declared.need.Need.TheVariants as need
use Rattle.closure_request.specs.Slots.{slots}
use Rattle.closure_plan.specs.Given.{Pins, LeafRows, pin_at, wanted}
use Rattle.closure_plan.specs.Closure.{reach}
use Rattle.closure_plan.specs.Needs.{is_given}
use Rattle.closure_plan.specs.Plan.{Placed, Planned, IsLeaf, IsNeed, pins_of, leaf_of, leaves_of, name_at, wish_of, same_need, has_need, without, has_given, its_pins, its_leaves}
use Rattle.closure_plan.specs.Giving.{with_pin}
use Rattle.closure_plan.specs.Laws.{Extends}
use Rattle.closure_plan.specs.Inside.{Holds, place_of}
use Rattle.closure_plan.proofs.MarkLemmas.{marked_is, apart_more, room_for_one, distinct_filtered, once_of}
use Rattle.closure_plan.proofs.PinLemmas.{wanted_stays, some_stays, reach_stays}

module _ {P H : Type 0} (pinned : P → indexes.Contents) (held : H → shards.Contents) where
  module _ (seen : Planned P H) (by_name : List ℕ) (room : ℕ) (h : Holds pinned held seen by_name room) where
    abbrev pins : Pins
    pins = its_pins pinned held seen.known

    pub each_pin : length pins ≡ length (slots seen.known.request)
    each_pin = length-map seen.known.pins (option_map pinned) ∙ h.keeps.reached.each_slot

    fit : AllByRecursion (IsNeed seen.known.request pins seen.known.names) seen.marked
    fit = recursion_from_All (IsNeed seen.known.request pins seen.known.names) seen.marked h.keeps.marks

    -- there is room for one mark more
    pub room_to_mark : (m : Need) → IsNeed seen.known.request pins seen.known.names m → has_need seen.marked m ≡ false → length seen.marked < room
    room_to_mark m i e = let l = room_for_one seen.known.request pins seen.known.names each_pin seen.marked m fit i e h.apart in let k = h.room in omega arith

    -- a marked need is one, and is not given
    pub marked_need : (m : Need) → has_need seen.marked m ≡ true → IsNeed seen.known.request pins seen.known.names m
    marked_need m e = marked_is (IsNeed seen.known.request pins seen.known.names) m seen.marked fit e

    pub marked_open : (m : Need) → has_need seen.marked m ≡ true → has_given pinned held seen.known m ≡ false
    marked_open m e = marked_is (λ m. has_given pinned held seen.known m ≡ false) m seen.marked (recursion_from_All (λ m. has_given pinned held seen.known m ≡ false) seen.marked h.keeps.not_given) e

    -- the names in their order are those that are reached
    pub order_reached : map (name_at seen.known.names) by_name ≡ reach seen.known.request (its_pins pinned held seen.known) (its_leaves pinned held seen.known)
    order_reached = h.order ∙ h.keeps.reached.all_reached

    -- a mark more
    pub holds_marked : (m : Need) → IsNeed seen.known.request pins seen.known.names m → has_need seen.marked m ≡ false → has_given pinned held seen.known m ≡ false
        → Holds pinned held (record seen { marked = seen.marked ++ m ∷ [] }) by_name room
    holds_marked m i e g = record {
      keeps = record {
        reached = h.keeps.reached;
        marks = All-push (IsNeed seen.known.request pins seen.known.names) seen.marked m h.keeps.marks i;
        not_given = All-push (λ m. has_given pinned held seen.known m ≡ false) seen.marked m h.keeps.not_given g;
        once = once_of (length (slots seen.known.request)) (seen.marked ++ m ∷ []) apart;
      };
      order = h.order;
      within = h.within;
      apart = apart;
      room = h.room;
    }
      where
        apart : IsDistinct eqb (map (place_of (length (slots seen.known.request))) (seen.marked ++ m ∷ []))
        apart = apart_more seen.known.request pins seen.known.names each_pin seen.marked m fit i e h.apart

    -- a mark less
    pub holds_unmarked : (m : Need) → Holds pinned held (record seen { marked = without m seen.marked }) by_name room
    holds_unmarked m = record {
      keeps = record {
        reached = h.keeps.reached;
        marks = All-filter (λ x. not (same_need m x)) (IsNeed seen.known.request pins seen.known.names) seen.marked h.keeps.marks;
        not_given = All-filter (λ x. not (same_need m x)) (λ m. has_given pinned held seen.known m ≡ false) seen.marked h.keeps.not_given;
        once = once_of (length (slots seen.known.request)) (without m seen.marked) apart;
      };
      order = h.order;
      within = h.within;
      apart = apart;
      room = h.room;
    }
      where
        apart : IsDistinct eqb (map (place_of (length (slots seen.known.request))) (without m seen.marked))
        apart = distinct_filtered (place_of (length (slots seen.known.request))) (λ x. not (same_need m x)) seen.marked h.apart

-- ---- a pin

-- a pin at a slot without one leaves each other slot as it was
pub ext : {P : Type 0} (pinned : P → indexes.Contents) (pins : List (Option P)) (slot : ℕ) (p : P) → pin_at (pins_of pinned pins) slot ≡ None → Extends (pins_of pinned pins) (pins_of pinned (slice_set pins slot (Some p)))
ext pinned [] slot p none t index e = e
ext pinned (x ∷ xs) zero p none zero index e = absurd (true≢false (sym (ap is_some e) ∙ ap is_some none))
ext pinned (x ∷ xs) zero p none (suc t) index e = e
ext pinned (x ∷ xs) (suc s) p none zero index e = e
ext pinned (x ∷ xs) (suc s) p none (suc t) index e = ext pinned xs s p none t index e

pub other_pin : {P : Type 0} (pinned : P → indexes.Contents) (pins : List (Option P)) (slot : ℕ) (x : Option P) (t : ℕ) → (slot ≡ t → ⊥) → pin_at (pins_of pinned (slice_set pins slot x)) t ≡ pin_at (pins_of pinned pins) t
other_pin pinned [] slot x t apart = refl
other_pin pinned (y ∷ ys) zero x zero apart = absurd (apart refl)
other_pin pinned (y ∷ ys) zero x (suc t) apart = refl
other_pin pinned (y ∷ ys) (suc s) x zero apart = refl
other_pin pinned (y ∷ ys) (suc s) x (suc t) apart = other_pin pinned ys s x t (λ e. apart (ap suc e))

pub not_one : (b : Bool) → not b ≡ true → b ≡ false
not_one true e = absurd (true≢false (sym e))
not_one false e = refl

module _ {P H : Type 0} (pinned : P → indexes.Contents) (held : H → shards.Contents) where
  module _ (seen : Planned P H) (by_name : List ℕ) (room : ℕ) (h : Holds pinned held seen by_name room) where
    -- each leaf is wanted
    pub leaves_wanted : AllByRecursion (λ (l : LeafRows). is_some (wanted seen.known.request (its_pins pinned held seen.known) l.slot l.name) ≡ true) (leaves_of held seen.known.leaves)
    leaves_wanted = recursion_from_All (λ (l : LeafRows). is_some (wanted seen.known.request (its_pins pinned held seen.known) l.slot l.name) ≡ true) (leaves_of held seen.known.leaves)
        (All-map (λ (l : LeafRows). is_some (wanted seen.known.request (its_pins pinned held seen.known) l.slot l.name) ≡ true) (leaf_of held) seen.known.leaves
        (All-weaker (IsLeaf held seen.known.request (its_pins pinned held seen.known) seen.known.names) (λ (l : Placed H). is_some (wanted seen.known.request (its_pins pinned held seen.known) l.slot l.name) ≡ true) (λ l i. ap is_some i.digest) seen.known.leaves h.keeps.reached.leaves))

    module _ (slot : ℕ) (p : P) (none : pin_at (its_pins pinned held seen.known) slot ≡ None) where
      abbrev pinned_more : Pins
      pinned_more = pins_of pinned (slice_set seen.known.pins slot (Some p))

      abbrev more : Extends (its_pins pinned held seen.known) pinned_more
      more = ext pinned seen.known.pins slot p none

      abbrev left : List Need
      left = without (need.Index slot) seen.marked

      still_open : (m : Need) → not (same_need (need.Index slot) m) ≡ true → has_given pinned held seen.known m ≡ false → is_given pinned_more (its_leaves pinned held seen.known) (wish_of seen.known.names m) ≡ false
      still_open (need.Index t) e g = ap is_some (other_pin pinned seen.known.pins slot (Some p) t (λ same. true≢false (sym ((unsigned_Decides slot t).1 same) ∙ not_one (slot == t) e))) ∙ g
      still_open (need.Shard t k) e g = g

      still_need : (m : Need) → IsNeed seen.known.request (its_pins pinned held seen.known) seen.known.names m → IsNeed seen.known.request pinned_more seen.known.names m
      still_need (need.Index t) i = i
      still_need (need.Shard t k) i = (i.0, some_stays seen.known.request (its_pins pinned held seen.known) pinned_more more t (name_at seen.known.names k) i.1)

      -- a pin more
      pub holds_pinned : Holds pinned held (record { known = with_pin slot p seen.known; marked = left }) by_name room
      holds_pinned = record {
        keeps = record {
          reached = record {
            each_slot = length-set seen.known.pins slot (Some p) ∙ h.keeps.reached.each_slot;
            distinct = h.keeps.reached.distinct;
            all_reached = h.keeps.reached.all_reached ∙ sym (reach_stays seen.known.request (its_pins pinned held seen.known) pinned_more more (its_leaves pinned held seen.known) leaves_wanted);
            leaves = All-weaker (IsLeaf held seen.known.request (its_pins pinned held seen.known) seen.known.names) (IsLeaf held seen.known.request pinned_more seen.known.names)
                (λ l i. record { reached = i.reached; digest = wanted_stays seen.known.request (its_pins pinned held seen.known) pinned_more more l.slot l.name (digest_of (held l.holder).bytes) i.digest }) seen.known.leaves h.keeps.reached.leaves;
            one_leaf = h.keeps.reached.one_leaf;
          };
          marks = All-weaker (IsNeed seen.known.request (its_pins pinned held seen.known) seen.known.names) (IsNeed seen.known.request pinned_more seen.known.names) still_need left
              (All-filter (λ x. not (same_need (need.Index slot) x)) (IsNeed seen.known.request (its_pins pinned held seen.known) seen.known.names) seen.marked h.keeps.marks);
          not_given = λ k d l. still_open (slice_index_or left k d)
              (filter_passes (λ x. not (same_need (need.Index slot) x)) seen.marked k d l)
              (All-filter (λ x. not (same_need (need.Index slot) x)) (λ m. has_given pinned held seen.known m ≡ false) seen.marked h.keeps.not_given k d l);
          once = once_of (length (slots seen.known.request)) left apart;
        };
        order = h.order;
        within = h.within;
        apart = apart;
        room = h.room;
      }
        where
          apart : IsDistinct eqb (map (place_of (length (slots seen.known.request))) left)
          apart = distinct_filtered (place_of (length (slots seen.known.request))) (λ x. not (same_need (need.Index slot) x)) seen.marked h.apart

pub none_of_some : {A : Type 0} (o : Option A) → is_some o ≡ false → o ≡ None
none_of_some None e = refl
none_of_some (Some a) e = absurd (true≢false e)
