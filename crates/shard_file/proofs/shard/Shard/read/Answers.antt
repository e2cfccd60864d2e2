use Rattle.std.proofs.Common.{sym, ◌∙◌, ap}
use Rattle.shard_file.specs.Spans.{rows_at}
use Rattle.shard_file.specs.Reading.{shard_of}
use Rattle.shard_file.proofs.ShardLemmas.{shard_says, shard_faults, one_shard}
use Rattle.shard_file.proofs.shard.Shard.read.Goals as goal

pub returns-in-Ok-clause-found : goal.returns-in-Ok-clause-found
returns-in-Ok-clause-found c =
    let read = rw c.as_slice.ensures.value at c.in-Ok.ensures in
    shard_says c.args.bytes.items (rows_at c.args.bytes.items c.in-Ok.rows.items) read

pub returns-in-Ok-clause-only : goal.returns-in-Ok-clause-only
returns-in-Ok-clause-only c = λ rows s.
    let read = rw c.as_slice.ensures.value at c.in-Ok.ensures in
    one_shard c.args.bytes.items (rows_at c.args.bytes.items c.in-Ok.rows.items) rows (shard_says c.args.bytes.items (rows_at c.args.bytes.items c.in-Ok.rows.items) read) s

pub returns-in-Err-Fault-clause-only : goal.returns-in-Err-Fault-clause-only
returns-in-Err-Fault-clause-only c = λ rows s.
    absurd (s.no_fault c.in-Err-Fault.fault (shard_faults c.args.bytes.items c.in-Err-Fault.fault
    (ap shard_of (sym c.as_slice.ensures.value) ∙ (rw c.in-Err-Fault.field-0-is at c.in-Err-Fault.ensures))).stands)

pub returns-in-Err-Fault-clause-fault : goal.returns-in-Err-Fault-clause-fault
returns-in-Err-Fault-clause-fault c =
    shard_faults c.args.bytes.items c.in-Err-Fault.fault
    (ap shard_of (sym c.as_slice.ensures.value) ∙ (rw c.in-Err-Fault.field-0-is at c.in-Err-Fault.ensures))

pub invariant_of-result : goal.invariant_of-result
invariant_of-result c =
    let read = rw c.as_slice.ensures.value at c.in-Ok.ensures in
    ∣ shard_says c.args.bytes.items (rows_at c.args.bytes.items c.in-Ok.rows.items) read ∣₁
