-- The reader and the writer of std behind a source and a sink, and how often they failed.
use Rattle.std.specs.Prelude.{ℕ}
use Rattle.link_io.specs.declared.standard.StdSource.{StdSource}
use Rattle.link_io.specs.declared.standard.StdSink.{StdSink}

-- the reader behind a source
abbrev pub reader_of : {R : Type 0} → StdSource R → R
reader_of source = source.reader

-- how many reads of a source failed
abbrev pub failed_reads : {R : Type 0} → StdSource R → ℕ
failed_reads source = source.faults

-- the writer behind a sink
abbrev pub writer_of : {W : Type 0} → StdSink W → W
writer_of sink = sink.writer

-- how many writes of a sink failed
abbrev pub failed_writes : {W : Type 0} → StdSink W → ℕ
failed_writes sink = sink.faults
