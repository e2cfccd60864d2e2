use Rattle.std.proofs.Common.{◌≡◌, ◌-◌, ℕ, List, []}
use Rattle.shard_index.specs.Names.{has_name}
use Rattle.shard_index.specs.Reading.{is_listed, AreDistinct, listed_after}
use Rattle.shard_index.proofs.listing.names_and_digests.Given as goal

-- the names that are left, behind those so far, give what all of them give; the names met are those so far, which differ
abbrev pub invariant-loop : goal.invariant-loop
invariant-loop l =
    (listed_after (l.count - l.counter) l.entries.items l.cur ≡ listed_after l.count [] l.fn.cur)
    × ((q : List ℕ) → has_name l.names q ≡ is_listed q l.entries.items)
    × AreDistinct l.entries.items
