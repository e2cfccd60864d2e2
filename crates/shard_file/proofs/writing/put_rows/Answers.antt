use Rattle.std.proofs.Common.{◌≡◌, ◌∙◌, ap, ◌++◌, List, ℕ, take}
use Rattle.shard_file.specs.Rows.{Row}
use Rattle.std.specs.List.{flat_map}
use Rattle.std.proofs.lemmas.List.{take_all}
use Rattle.mp_codec.proofs.AppendLemmas.{one_more, all_more, kept_before, on_err_too}
use Rattle.shard_file.specs.Writing.{bytes_under, IsReadableUnder}
use Rattle.shard_file.proofs.UnderLemmas.{under_bytes}
use Rattle.shard_file.proofs.writing.put_rows.Goals as goal

pub returns-in_err-put_row_if-clause-kept : goal.returns-in_err-put_row_if-clause-kept
returns-in_err-put_row_if-clause-kept c =
    on_err_too c.from_residual.result
    (kept_before (flat_map (bytes_under c.args.conda) (take c.loop-file.file-index c.args.files.now)) c.args.out.now.items c.loop-file.out.items c.put_row_if.new.out.items c.loop-file.invariant.written c.in_err-put_row_if.ensures.kept)

pub loop-file-preserved : goal.loop-file-preserved
loop-file-preserved c = record {
  written = one_more (bytes_under c.args.conda) c.args.files.now c.loop-file.file-index c.file-item.result c.args.out.now.items c.loop-file.out.items c.put_row_if.new.out.items c.loop-file-test.true c.file-item.is c.loop-file.invariant.written c.in_ok-put_row_if.ensures.ok;
  rows = all_more (IsReadableUnder c.args.conda) c.args.files.now c.loop-file.file-index c.file-item.result c.loop-file-test.true c.file-item.is c.loop-file.invariant.rows c.in_ok-put_row_if.ensures.row;
}

pub returns-clause-ok : goal.returns-clause-ok
returns-clause-ok c =
    let all : take c.loop-file.file-index c.args.files.now ≡ c.args.files.now = take_all c.loop-file.file-index c.args.files.now c.loop-file-test.false in
    c.loop-file.invariant.written
    ∙ ap (λ (rows : List Row). c.args.out.now.items ++ flat_map (bytes_under c.args.conda) rows) all
    ∙ ap (λ (t : List ℕ). c.args.out.now.items ++ t) (under_bytes c.args.conda c.args.files.now)
