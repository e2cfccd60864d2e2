-- The parts of a bracket, one after the other.
use Rattle.std.proofs.Common.{ℕ, suc, length, Option, Some, None}
use Rattle.match_spec.specs.declared.passage.Passage.{Passage as Held}

-- how many bytes are left, and one for the part that they are
abbrev pub left_len : Option Held → ℕ
left_len None = 0
left_len (Some p) = suc (length p.text.now)
