use Rattle.std.proofs.Common.{◌≡◌, refl, false, arith}
use Rattle.std.specs.Ordering.{is_lt}
use Rattle.shard_file.specs.Writing.{row_cmp}
use Rattle.shard_file.proofs.AscendingLemmas.{ascending, not_ascending}
use Rattle.shard_file.proofs.writing.are_ascending.Goals as goal

pub returns-then-not-comes_before : goal.returns-then-not-comes_before
returns-then-not-comes_before c = (
  λ e. absurd (cc),
  λ up. let not_before : is_lt (row_cmp c.index-files-i.result c.index-files-i-in-loop-i.result) ≡ false = grind arith in
      absurd (not_ascending c.args.files.now c.loop-i.i c.index-files-i.result c.index-files-i-in-loop-i.result (omega arith) (omega arith) c.index-files-i.is c.index-files-i-in-loop-i.is not_before up),
)

pub returns : goal.returns
returns c = (λ e. ascending c.args.files.now c.loop-i.i (omega arith) c.loop-i.invariant, λ up. refl)
