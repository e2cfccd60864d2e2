-- What is so of the indexes and shards of a query.
use Rattle.std.specs.Prelude.{◌≡◌, ℕ, slice_get, Some}
use Rattle.std.specs.List.{All}
use Rattle.link_io.specs.Conn.{LinkFacts}
use Rattle.shard_file.specs.Rows.{ShardOf}
use Rattle.fetch_flight.specs.Made.{Pinned, Held}
use Rattle.fetch_flight.specs.Pin.{IsPinOver, IsWreckOver}
use Rattle.fetch_flight.specs.Pins.{IsHeld}
use Rattle.fetch_flight.specs.declared.verdicts.Verdict.{Verdict}
use Rattle.fetch_flight.specs.declared.verdicts.Verdict.TheVariants.{Index, Shard, Wreck}
use Rattle.closure_request.specs.Request.{Asking}
use Rattle.closure_plan.specs.Plan.{Known, Placed}
use Rattle.query_needs.specs.Targets.{IsFormed, slot_target}

-- what is so of each verdict by its type: an index and a shard are what their bytes spell, and a wreck has its cause
abbrev pub IsSound : {L : Type 0} → (L → LinkFacts) → Verdict L → Type 0
IsSound facts (Index pin) = IsPinOver facts pin
IsSound facts (Shard held) = IsHeld held × ∥ ShardOf held.leaf.bytes held.leaf.rows ∥₁
IsSound facts (Wreck wreck) = IsWreckOver facts wreck

-- a verdict is the index of a slot: it was fetched as the slot's index, and is what the body of its reply spells
pub record IsPinOf {L : Type 0} (facts : L → LinkFacts) (r : Asking) (s : ℕ) (v : Verdict L) : Type 0 where
  pub pin : Pinned L
  pub is : v ≡ Index pin
  pub target : pin.parcel.target ≡ slot_target r s
  pub known : IsPinOver facts pin

-- a verdict is a shard: its rows are what its bytes spell, and its key is their digest
pub record IsLeafHeld {L : Type 0} (v : Verdict L) : Type 0 where
  pub held : Held
  pub is : v ≡ Shard held
  pub known : IsHeld held
  pub rows : ∥ ShardOf held.leaf.bytes held.leaf.rows ∥₁

-- the request is well formed, each pin is the index of its slot, and each leaf is a shard
pub record IsKnown {L : Type 0} (facts : L → LinkFacts) (k : Known (Verdict L) (Verdict L)) : Type 0 where
  pub formed : IsFormed k.request
  pub pins : (s : ℕ) (v : Verdict L) → slice_get k.pins s ≡ Some (Some v) → IsPinOf facts k.request s v
  pub leaves : All (λ (l : Placed (Verdict L)). IsLeafHeld l.holder) k.leaves
