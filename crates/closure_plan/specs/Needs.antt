-- What a request needs, in the order in which it is asked for.
use Rattle.std.specs.Prelude.{ℕ, ◌==◌, Bool, not, false, ◌&&◌, List, [], ◌∷◌, ◌++◌, map, Option, Some, None, is_some, if◌then◌else◌}
use Rattle.std.specs.List.{flat_map, find, list_any}
use Rattle.std.specs.Str.{bytes_eq}
use Rattle.digest_gate.specs.declared.digest.Digest.{Digest}
use Rattle.closure_plan.specs.Names.{Name, is_name}
use Rattle.closure_request.specs.Request.{Asking}
use Rattle.closure_request.specs.Slots.{slot_at, numbers}
use Rattle.closure_plan.specs.Given.{Pins, LeafRows, pin_at, is_at, wanted}
use Rattle.closure_plan.specs.Closure.{reach}

-- a need: the index of a slot, or the shard of a name in a slot
pub data Wish : Type 0 where
  the_index : ℕ → Wish
  the_shard : ℕ → Name → Wish

-- the slots in which the shard of a name is needed
abbrev pub shards_of : Asking → Pins → Name → List Wish
shards_of r pins n = flat_map (λ s. if is_some (wanted r pins s n) then the_shard s n ∷ [] else []) (numbers r)

-- the needs in the order in which they are asked for: indexes by slot, then shards by name, then by slot
abbrev pub needs : Asking → Pins → List LeafRows → List Wish
needs r pins leaves = map the_index (numbers r) ++ flat_map (shards_of r pins) (reach r pins leaves)

-- whether two needs are one
abbrev pub same_wish : Wish → Wish → Bool
same_wish (the_index s) (the_index t) = s == t
same_wish (the_index s) (the_shard t m) = false
same_wish (the_shard s n) (the_index t) = false
same_wish (the_shard s n) (the_shard t m) = (s == t) && is_name n m

-- whether a need stands in a list
abbrev pub has_wish : List Wish → Wish → Bool
has_wish needs need = list_any (same_wish need) needs

-- whether a need is given
abbrev pub is_given : Pins → List LeafRows → Wish → Bool
is_given pins leaves (the_index s) = is_some (pin_at pins s)
is_given pins leaves (the_shard s n) = is_some (find (is_at s n) leaves)

-- whether two digests are there and are one
abbrev pub is_digest : Option Digest → Option Digest → Bool
is_digest None other = false
is_digest (Some d) None = false
is_digest (Some d) (Some e) = bytes_eq d.0 e.0

-- whether two needs have one key: an index's key is its channel's base with the subdir, a shard's its digest
abbrev pub is_key : Asking → Pins → Wish → Wish → Bool
is_key r pins (the_index s) (the_index t) =
    bytes_eq (slot_at r s).channel.base (slot_at r t).channel.base && bytes_eq (slot_at r s).subdir (slot_at r t).subdir
is_key r pins (the_index s) (the_shard t m) = false
is_key r pins (the_shard s n) (the_index t) = false
is_key r pins (the_shard s n) (the_shard t m) = is_digest (wanted r pins s n) (wanted r pins t m)

-- whether a need may be asked for: it is not given, and no marked need has its key; a marked need has its own
abbrev pub is_askable : Asking → Pins → List LeafRows → List Wish → Wish → Bool
is_askable r pins leaves marked need = not (is_given pins leaves need) && not (list_any (is_key r pins need) marked)

-- the next need to ask for
abbrev pub next_wish : Asking → Pins → List LeafRows → List Wish → Option Wish
next_wish r pins leaves marked = find (is_askable r pins leaves marked) (needs r pins leaves)
