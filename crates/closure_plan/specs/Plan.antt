-- What a plan has, and what is always so of it.
use Rattle.std.specs.Prelude.{◌≡◌, ⊤, ℕ, ◌+◌, ◌<◌, ◌==◌, ◌&&◌, not, Bool, true, false, List, [], map, length, Option, Some, None, is_some}
use Rattle.std.specs.List.{All, IsDistinct, slice_get, slice_index_or, list_any, list_all, count_by, filter}
use Rattle.std.specs.Option.{option_map, option_and_then}
use Rattle.digest_gate.specs.Digest.{digest_of}
use Rattle.digest_gate.specs.declared.digest.Digest.{Digest}
use Rattle.shard_file.specs.Rows as shards
use Rattle.shard_index.specs.Index as indexes
use Rattle.closure_plan.specs.declared.need.Need.{Need}
use Rattle.closure_plan.specs.declared.need.Need.TheVariants as need
use Rattle.closure_plan.specs.Names.{Name, is_name, has_name, ascending}
use Rattle.closure_request.specs.Request.{Asking}
use Rattle.closure_request.specs.Slots.{slots}
use Rattle.closure_plan.specs.Given.{Pins, LeafRows, wanted}
use Rattle.closure_plan.specs.Closure.{reach}
use Rattle.closure_plan.specs.Needs.{Wish, the_index, the_shard, is_given, is_askable, needs, next_wish}

-- a shard that was given: its slot, its name and what holds it
pub record Placed (H : Type 0) : Type 0 where
  pub slot : ℕ
  pub name : Name
  pub holder : H

-- what is known: the request, the names in the order in which they were reached, what holds the index of each slot that
-- is pinned, and the shards in the order in which they were given
pub record Known (P H : Type 0) : Type 0 where
  pub request : Asking
  pub names : List Name
  pub pins : List (Option P)
  pub leaves : List (Placed H)

-- what a plan has: what is known, and the marked needs in the order of marking
pub record Planned (P H : Type 0) : Type 0 where
  pub known : Known P H
  pub marked : List Need

-- ---- what is held

-- the contents of the pinned indexes
abbrev pub pins_of : {P : Type 0} → (P → indexes.Contents) → List (Option P) → Pins
pins_of contents pins = map (option_map contents) pins

-- the rows of a shard that is held
abbrev pub leaf_of : {H : Type 0} → (H → shards.Contents) → Placed H → LeafRows
leaf_of contents l = record { slot = l.slot; name = l.name; rows = (contents l.holder).rows }

-- the rows of the shards that are held
abbrev pub leaves_of : {H : Type 0} → (H → shards.Contents) → List (Placed H) → List LeafRows
leaves_of contents leaves = map (leaf_of contents) leaves

-- ---- needs by number

-- the name of a number
abbrev pub name_at : List Name → ℕ → Name
name_at names k = slice_index_or names k []

-- the need of a number, by its name
abbrev pub wish_of : List Name → Need → Wish
wish_of names (need.Index s) = the_index s
wish_of names (need.Shard s k) = the_shard s (name_at names k)

-- a need stands for an index of a slot, or for a shard that is needed of a listed name
abbrev pub IsNeed : Asking → Pins → List Name → Need → Type 0
IsNeed r pins names (need.Index s) = s < length (slots r)
IsNeed r pins names (need.Shard s k) = (k < length names) × (is_some (wanted r pins s (name_at names k)) ≡ true)

-- the digest of the shard of a need, if the number is that of a name and a shard is needed
abbrev pub digest_of_need : Asking → Pins → List Name → Need → Option Digest
digest_of_need r pins names (need.Index s) = None
digest_of_need r pins names (need.Shard s k) = option_and_then (wanted r pins s) (slice_get names k)

-- whether two needs are one
abbrev pub same_need : Need → Need → Bool
same_need (need.Index s) (need.Index t) = s == t
same_need (need.Index s) (need.Shard t m) = false
same_need (need.Shard s k) (need.Index t) = false
same_need (need.Shard s k) (need.Shard t m) = (s == t) && (k == m)

-- a need's number is that of a slot, or of a name
abbrev pub HasNumber : List Name → Need → Type 0
HasNumber names (need.Index s) = ⊤
HasNumber names (need.Shard s k) = k < length names

-- whether a need stands in a list
abbrev pub has_need : List Need → Need → Bool
has_need ms m = list_any (same_need m) ms

-- a list without a need
abbrev pub without : Need → List Need → List Need
without m ms = filter (λ x. not (same_need m x)) ms

-- ---- what is known

module _ {P H : Type 0} (pinned : P → indexes.Contents) (held : H → shards.Contents) (k : Known P H) where
  -- the contents of its indexes
  abbrev pub its_pins : Pins
  its_pins = pins_of pinned k.pins

  -- the rows of its shards
  abbrev pub its_leaves : List LeafRows
  its_leaves = leaves_of held k.leaves

  -- what it needs
  abbrev pub its_needs : List Wish
  its_needs = needs k.request its_pins its_leaves

  -- whether a need of it is given
  abbrev pub has_given : Need → Bool
  has_given m = is_given its_pins its_leaves (wish_of k.names m)

  -- whether each of its needs is given
  abbrev pub its_done : Bool
  its_done = list_all (is_given its_pins its_leaves) its_needs

-- how many needs are given: the pinned slots and the shards
abbrev pub given_count : {P H : Type 0} → Known P H → ℕ
given_count k = count_by is_some k.pins + length k.leaves

-- ---- a plan

module _ {P H : Type 0} (pinned : P → indexes.Contents) (held : H → shards.Contents) (p : Planned P H) where
  -- the marked needs of a plan, by their names
  abbrev pub its_wishes : List Wish
  its_wishes = map (wish_of p.known.names) p.marked

  -- whether a need of a plan may be asked for
  abbrev pub may_ask : Wish → Bool
  may_ask = is_askable p.known.request (its_pins pinned held p.known) (its_leaves pinned held p.known) its_wishes

  -- the need that a plan asks for next
  abbrev pub its_next : Option Wish
  its_next = next_wish p.known.request (its_pins pinned held p.known) (its_leaves pinned held p.known) its_wishes

-- ---- what is always so

-- a shard that is held is that of a reached name, and its bytes have the digest that the slot's index lists
pub record IsLeaf {H : Type 0} (contents : H → shards.Contents) (r : Asking) (pins : Pins) (names : List Name) (l : Placed H) : Type 0 where
  pub reached : has_name names l.name ≡ true
  pub digest : wanted r pins l.slot l.name ≡ Some (digest_of (contents l.holder).bytes)

-- whether two shards are those of one slot and name
abbrev pub is_same_leaf : {H : Type 0} → Placed H → Placed H → Bool
is_same_leaf l m = (l.slot == m.slot) && is_name l.name m.name

-- each slot has a place for its pin, no name is listed twice, the names are those that are reached over the pins and
-- shards so far, each shard is that of a need, and there is one for each
pub record IsReached {P H : Type 0} (pinned : P → indexes.Contents) (held : H → shards.Contents) (k : Known P H) : Type 0 where
  pub each_slot : length k.pins ≡ length (slots k.request)
  pub distinct : IsDistinct is_name k.names
  pub all_reached : ascending k.names ≡ reach k.request (pins_of pinned k.pins) (leaves_of held k.leaves)
  pub leaves : All (IsLeaf held k.request (pins_of pinned k.pins) k.names) k.leaves
  pub one_leaf : IsDistinct is_same_leaf k.leaves

-- what is known is reached, and the marks are needs that aren't given, none of them twice
pub record IsPlan {P H : Type 0} (pinned : P → indexes.Contents) (held : H → shards.Contents) (p : Planned P H) : Type 0 where
  pub reached : IsReached pinned held p.known
  pub marks : All (IsNeed p.known.request (pins_of pinned p.known.pins) p.known.names) p.marked
  pub not_given : All (λ m. has_given pinned held p.known m ≡ false) p.marked
  pub once : IsDistinct same_need p.marked

-- a need may be marked: it is one, is not marked, and is not given
pub record CanMark {P H : Type 0} (pinned : P → indexes.Contents) (held : H → shards.Contents) (p : Planned P H) (m : Need) : Type 0 where
  pub needed : IsNeed p.known.request (its_pins pinned held p.known) p.known.names m
  pub unmarked : has_need p.marked m ≡ false
  pub not_given : has_given pinned held p.known m ≡ false
