use Rattle.std.proofs.Common.{ℕ, ◌<◌, ◌≤◌}
use Rattle.std.specs.Prelude.{slice_index}
use Rattle.mp_codec.proofs.reading.all_bits.Given as goal

-- no byte so far is above the bits
abbrev pub invariant-loop-byte : goal.invariant-loop-byte
invariant-loop-byte l = (k : ℕ) → k < l.byte-index → slice_index l.bytes k ≤ l.bits
