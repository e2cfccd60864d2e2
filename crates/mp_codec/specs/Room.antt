-- Memory that is taken before what a head claims is read.
use Rattle.std.specs.Prelude.{ℕ}

-- for so many elements or pairs at most memory is taken at once
abbrev pub most_at_once : ℕ
most_at_once = 64
