use Rattle.std.proofs.Common.{◌≡◌, drop, map}
use Rattle.std.specs.Ordering.{nat_cmp}
use Rattle.std.specs.Cmp.Lexicographic.{slice_cmp}
use Rattle.std.specs.FinMap.{find}
use Rattle.channel_store.specs.Memory.{first_file}
use Rattle.channel_store.proofs.memory.first_named.Given as goal

-- the files that were passed don't have the name
abbrev pub invariant-loop-known : goal.invariant-loop-known
invariant-loop-known l =
    find (slice_cmp nat_cmp) l.name (map first_file l.files) ≡ find (slice_cmp nat_cmp) l.name (map first_file (drop l.known-index l.files))
