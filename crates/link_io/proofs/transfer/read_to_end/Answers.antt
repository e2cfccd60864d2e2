use Rattle.std.proofs.Common.{◌+◌, sym, ◌∙◌, ap, arith, List, ℕ, length-take, length-take-le}
use Rattle.std.specs.Io.KnownBytes.{prepend_known}
use Rattle.link_io.proofs.ReadingLemmas.{both-read, all-read, loses-both}
use Rattle.link_io.proofs.transfer.read_to_end.Goals as goal

pub returns-then-count-eq0-clause-ok : goal.returns-then-count-eq0-clause-ok
returns-then-count-eq0-clause-ok g c = all-read _ _ _ _ _ _ c.loop-bytes.invariant.read c.in_ok-count.ensures.ok (omega arith)

pub returns-then-count-eq0-clause-stops : goal.returns-then-count-eq0-clause-stops
returns-then-count-eq0-clause-stops g c = loses-both _ _ _ _ _ _ c.loop-bytes.invariant.read c.in_ok-count.ensures.ok (c.args.limit + 1) (omega (arith, c.loop-bytes.bytes.ok.0))

pub returns-then-count-free-clause-stops : goal.returns-then-count-free-clause-stops
returns-then-count-free-clause-stops g c =
    let size = length-take (c.min-most.result + 1) c.deref_mut.result.now in
    loses-both _ _ _ _ _ _ c.loop-bytes.invariant.read c.in_ok-count.ensures.ok (c.args.limit + 1) (omega (arith, c.loop-bytes.bytes.ok.0, c.in_ok-count.ensures.ok.within, c.read.auto.buf, size))

pub loop-bytes-preserved : goal.loop-bytes-preserved
loop-bytes-preserved g c =
    let grown = c.in_ok-extend_from_slice.ensures in
    let read = c.in_ok-count.ensures.ok in
    let together = both-read _ _ _ _ _ _ c.loop-bytes.invariant.read read in
    record {
      within = omega (arith, grown.len, c.loop-bytes.invariant.within, length-take-le c.in_ok-count.count c.read.new.buf read.within);
      piece = c.loop-bytes.invariant.piece;
      read = together ∙ ap (λ (l : List ℕ). prepend_known l (g.I.Source.left c.read.new.self)) (sym grown.items);
      later = omega arith;
    }

pub returns-in_err-extend_from_slice-clause-stops : goal.returns-in_err-extend_from_slice-clause-stops
returns-in_err-extend_from_slice-clause-stops g c =
    loses-both _ _ _ _ _ _ c.loop-bytes.invariant.read c.in_ok-count.ensures.ok (c.args.limit + 1) (omega (arith, c.loop-bytes.bytes.ok.0))
