-- What a pin or a shard more changes of what is given: one need alone.
use Rattle.std.specs.Prelude.{◌≡◌, ◌⊎◌, ℕ, ◌+◌, Some, true, false, List, ◌++◌}
use Rattle.std.specs.List.{list_any}
use Rattle.shard_file.specs.Rows as shards
use Rattle.shard_index.specs.Index as indexes
use Rattle.closure_plan.specs.declared.need.Need.{Need}
use Rattle.closure_plan.specs.declared.need.Need.TheVariants as need
use Rattle.closure_plan.specs.Names.{Name}
use Rattle.closure_plan.specs.Needs.{is_key}
use Rattle.closure_plan.specs.Plan.{CanMark, HasNumber, IsNeed, IsPlan, IsReached, Known, Planned, digest_of_need, given_count, has_given, its_next, its_pins, its_wishes, same_need, wish_of}
use Rattle.closure_plan.specs.Giving.{Gave, with_pin}

-- a need of what is known
abbrev pub IsNeedOf : {P H : Type 0} → (P → indexes.Contents) → (H → shards.Contents) → Known P H → Need → Type 0
IsNeedOf pinned held k m = IsNeed k.request (its_pins pinned held k) k.names m

-- one need more is given. Names keep their numbers, with new ones behind them; needs stay needs, with their digests;
-- this need is given now, each other need that was there is given where it was, and no need that is new is given; so
-- one need more is given
pub record Fills {P H : Type 0} (pinned : P → indexes.Contents) (held : H → shards.Contents) (m : Need) (old new : Known P H) : Type 0 where
  pub request : new.request ≡ old.request
  pub fresh : List Name
  pub names : new.names ≡ old.names ++ fresh
  pub needs : (x : Need) → IsNeedOf pinned held old x → IsNeedOf pinned held new x
  pub digests : (x : Need) → IsNeedOf pinned held old x
      → digest_of_need new.request (its_pins pinned held new) new.names x ≡ digest_of_need old.request (its_pins pinned held old) old.names x
  pub filled : has_given pinned held new m ≡ true
  pub others : (x : Need) → IsNeedOf pinned held old x → same_need m x ≡ false → has_given pinned held new x ≡ has_given pinned held old x
  pub only : (x : Need) → IsNeedOf pinned held new x → has_given pinned held new x ≡ true → (x ≡ m) ⊎ (IsNeedOf pinned held old x × (has_given pinned held old x ≡ true))
  pub count : given_count new ≡ given_count old + 1

-- a pin of a slot that is not pinned fills the need of its index
abbrev pub PinFills : {P H : Type 0} → (P → indexes.Contents) → (H → shards.Contents) → Type 0
PinFills {P = P} {H = H} pinned held = (slot : ℕ) (holder : P) (old : Known P H) → IsReached pinned held old
    → IsNeedOf pinned held old (need.Index slot) → has_given pinned held old (need.Index slot) ≡ false
    → Fills pinned held (need.Index slot) old (with_pin slot holder old)

-- a shard of a need that is not given fills that need
abbrev pub GiveFills : {P H : Type 0} → (P → indexes.Contents) → (H → shards.Contents) → Type 0
GiveFills {P = P} {H = H} pinned held = (slot k : ℕ) (holder : H) (old new : Known P H) → IsReached pinned held old → IsReached pinned held new
    → IsNeedOf pinned held old (need.Shard slot k) → has_given pinned held old (need.Shard slot k) ≡ false → Gave slot k holder old new
    → Fills pinned held (need.Shard slot k) old new

-- the need to ask for next may be marked, and no marked need has its key
abbrev pub NextCanBeMarked : {P H : Type 0} → (P → indexes.Contents) → (H → shards.Contents) → Type 0
NextCanBeMarked {P = P} {H = H} pinned held = (p : Planned P H) → IsPlan pinned held p → (m : Need) → HasNumber p.known.names m
    → its_next pinned held p ≡ Some (wish_of p.known.names m)
    → CanMark pinned held p m × (list_any (is_key p.known.request (its_pins pinned held p.known) (wish_of p.known.names m)) (its_wishes pinned held p) ≡ false)
