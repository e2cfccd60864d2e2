use Rattle.std.specs.Io.KnownBytes.{Keeps}
use Rattle.link_io.proofs.standard.write_uninterrupted.Given as goal

-- a write that was interrupted left nothing
abbrev pub invariant-loop : goal.invariant-loop
invariant-loop g l = Keeps (g.W.Write.contents l.initial.writer) (g.W.Write.contents l.writer)
