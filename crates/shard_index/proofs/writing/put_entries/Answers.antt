use Rattle.std.proofs.Common.{take}
use Rattle.std.specs.List.{flat_map}
use Rattle.shard_index.specs.Writing.{entry_bytes, IsEntry}
use Rattle.mp_codec.proofs.AppendLemmas.{one_more, all_more, kept_before, on_err_too}
use Rattle.shard_index.proofs.writing.put_entries.Goals as goal

pub loop-row-preserved : goal.loop-row-preserved
loop-row-preserved c = record {
  written = one_more entry_bytes c.args.rows.now c.loop-row.row-index c.row-item.result c.args.out.now.items c.loop-row.out.items c.put_entry.new.out.items c.loop-row-test.true c.row-item.is c.loop-row.invariant.written
      c.in_ok-put_entry.ensures.ok;
  entries = all_more IsEntry c.args.rows.now c.loop-row.row-index c.row-item.result c.loop-row-test.true c.row-item.is c.loop-row.invariant.entries c.in_ok-put_entry.ensures.entry;
}

pub returns-in_err-put_entry-clause-kept : goal.returns-in_err-put_entry-clause-kept
returns-in_err-put_entry-clause-kept c =
    on_err_too c.from_residual.result
    (kept_before (flat_map entry_bytes (take c.loop-row.row-index c.args.rows.now)) c.args.out.now.items c.loop-row.out.items c.put_entry.new.out.items c.loop-row.invariant.written c.in_err-put_entry.ensures.kept)
