-- A source and a sink in memory: what they hold, and what each call does.
use Rattle.std.specs.Prelude.{ℕ, ◌+◌, ◌-◌, ◌^◌, min, List, [], ◌++◌, length, drop}

-- a source in memory
pub record MemoryInput : Type 0 where
  -- the bytes that are still to come
  pub left : List ℕ
  -- the most bytes of one read
  pub piece : ℕ
  -- the numbers of the reads that fail
  pub fails : List ℕ
  -- how many reads there were, and how many of them failed
  pub reads : ℕ
  pub faults : ℕ

-- a sink in memory
pub record MemoryOutput : Type 0 where
  -- the bytes that were taken
  pub written : List ℕ
  -- how many bytes it can hold
  pub room : ℕ
  -- the most bytes of one write
  pub piece : ℕ
  -- the numbers of the writes that fail
  pub fails : List ℕ
  -- how many writes there were, and how many of them failed
  pub writes : ℕ
  pub faults : ℕ

-- one call more; a count stands still at its type's end
abbrev pub one_more : ℕ → ℕ
one_more count = min (count + 1) (2 ^ 64 - 1)

-- a source of these bytes, before its first read
abbrev pub input_of : List ℕ → ℕ → List ℕ → MemoryInput
input_of bytes piece fails =
    record { left = bytes; piece = piece; fails = fails; reads = 0; faults = 0 }

-- how many bytes a read gives that doesn't fail
abbrev pub read_size : MemoryInput → ℕ → ℕ
read_size input room = min input.piece (min room (length input.left))

-- the source behind a read of that many bytes
abbrev pub input_after : MemoryInput → ℕ → MemoryInput
input_after input count =
    record input { left = drop count input.left; reads = one_more input.reads }

-- the source behind a read that failed
abbrev pub input_after_fault : MemoryInput → MemoryInput
input_after_fault input =
    record input { reads = one_more input.reads; faults = one_more input.faults }

-- an empty sink, before its first write
abbrev pub output_of : ℕ → ℕ → List ℕ → MemoryOutput
output_of room piece fails =
    record { written = []; room = room; piece = piece; fails = fails; writes = 0; faults = 0 }

-- how many bytes are free in a sink
abbrev pub free : MemoryOutput → ℕ
free output = output.room - length output.written

-- how many bytes a write takes that doesn't fail
abbrev pub write_size : MemoryOutput → ℕ → ℕ
write_size output size = min output.piece (min size (free output))

-- the sink behind a write that took these bytes
abbrev pub output_after : MemoryOutput → List ℕ → MemoryOutput
output_after output bytes =
    record output { written = output.written ++ bytes; writes = one_more output.writes }

-- the sink behind a write that failed
abbrev pub output_after_fault : MemoryOutput → MemoryOutput
output_after_fault output =
    record output { writes = one_more output.writes; faults = one_more output.faults }
