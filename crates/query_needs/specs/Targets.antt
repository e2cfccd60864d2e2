-- What a need is fetched as (docs/FORMATS.md, "Addresses").
use Rattle.std.specs.Prelude.{◌≡◌, ◌≤◌, ◌<◌, true, ℕ, List, [], length, slice_get, Option, Some, None}
use Rattle.std.specs.List.{list_all}
use Rattle.std.specs.Option.{option_flatten}
use Rattle.digest_gate.specs.declared.digest.Digest.{Digest}
use Rattle.link_io.specs.Address.{is_address_byte}
use Rattle.link_io.specs.declared.target.Key.{Key}
use Rattle.link_io.specs.declared.target.Key.TheVariants as key
use Rattle.link_io.specs.declared.target.Target.{Target}
use Rattle.channel_url.specs.Addresses.{most_of_channel_base, index_url, shard_url}
use Rattle.channel_url.specs.Law.{IsBase, has_no_slash}
use Rattle.fetch_flight.specs.declared.verdicts.Verdict.{Verdict}
use Rattle.closure_request.specs.Request.{Asking}
use Rattle.closure_request.specs.Slots.{Slot, slots, slot_at}
use Rattle.closure_plan.specs.declared.need.Need.{Need}
use Rattle.closure_plan.specs.declared.need.Need.TheVariants as need
use Rattle.closure_plan.specs.Plan.{Known, its_pins, digest_of_need}
use Rattle.query_needs.specs.Holders.{index_in, leaf_in, shards_base_in}

-- a slot is well formed: its channel's base is the base of a channel, and its subdir has at most 64 bytes, all of which an
-- address may have, and no `/`
pub record IsFormedSlot (x : Slot) : Type 0 where
  pub base : IsBase most_of_channel_base x.channel.base
  pub short : length x.subdir ≤ 64
  pub allowed : list_all is_address_byte x.subdir ≡ true
  pub one_name : has_no_slash x.subdir ≡ true

-- each slot of a request is well formed
abbrev pub IsFormed : Asking → Type 0
IsFormed r = (s : ℕ) → s < length (slots r) → IsFormedSlot (slot_at r s)

-- the target of an index at an address
abbrev pub index_target : List ℕ → Target
index_target url = record { key = key.Index url; url = url }

-- the target of the index of a slot
abbrev pub slot_target : Asking → ℕ → Target
slot_target r s = index_target (index_url (slot_at r s).channel.base (slot_at r s).subdir)

-- where the shards of a slot stand, which its index says; nowhere where the slot isn't pinned
abbrev pub shards_base_of : {L : Type 0} → Option (Verdict L) → List ℕ
shards_base_of (Some v) = shards_base_in v
shards_base_of None = []

-- the target of a shard of some digest below a base
abbrev pub shard_target : List ℕ → Option Digest → Target
shard_target base (Some digest) = record { key = key.Shard digest; url = shard_url base digest }
shard_target base None = index_target []

-- the target of a need: an index's key is its address, and a shard's the digest that its slot's index lists
abbrev pub target_of : {L : Type 0} → Known (Verdict L) (Verdict L) → Need → Target
target_of k (need.Index s) = slot_target k.request s
target_of k (need.Shard s n) =
    shard_target (shards_base_of (option_flatten (slice_get k.pins s))) (digest_of_need k.request (its_pins index_in leaf_in k) k.names (need.Shard s n))

-- the key of a need
abbrev pub key_at : {L : Type 0} → Known (Verdict L) (Verdict L) → Need → Key
key_at k m = (target_of k m).key
