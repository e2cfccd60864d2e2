use Rattle.std.proofs.Common.{◌∙◌, ap, ◌++◌, ℕ, List}
use Rattle.mp_codec.specs.Writing.{map_head}
use Rattle.shard_index.specs.Writing.{version_pair, info_pair, shards_pair}
use Rattle.mp_codec.proofs.AppendLemmas.{on_ok, on_err, on_err_too, both_written, kept_before}
use Rattle.shard_index.proofs.WrittenLemmas.{index_parts}
use Rattle.shard_index.proofs.writing.put_index.Goals as goal

pub returns-in_err-put_version-clause-kept : goal.returns-in_err-put_version-clause-kept
returns-in_err-put_version-clause-kept c =
    on_err_too c.from_residual-in_err-put_version.result
    (kept_before (map_head 3) c.args.out.now.items c.put_map.new.out.items c.put_version.new.out.items c.in_ok-put_map.ensures.ok c.in_err-put_version.ensures.kept)

pub returns-in_err-put_info-clause-kept : goal.returns-in_err-put_info-clause-kept
returns-in_err-put_info-clause-kept c =
    on_err_too c.from_residual-in_err-put_info.result
    (kept_before (map_head 3) c.args.out.now.items c.put_map.new.out.items c.put_info.new.out.items c.in_ok-put_map.ensures.ok
    (kept_before version_pair c.put_map.new.out.items c.put_version.new.out.items c.put_info.new.out.items c.in_ok-put_version.ensures.ok c.in_err-put_info.ensures.kept))

pub returns-clause-ok : goal.returns-clause-ok
returns-clause-ok c =
    let subdir : List ℕ = c.args.subdir.now in
    let rows = c.args.rows.now in
    on_ok c.put_shards.result (λ last.
    both_written (map_head 3) (version_pair ++ (info_pair subdir ++ shards_pair rows)) c.args.out.now.items c.put_map.new.out.items c.put_shards.new.out.items c.in_ok-put_map.ensures.ok
    (both_written version_pair (info_pair subdir ++ shards_pair rows) c.put_map.new.out.items c.put_version.new.out.items c.put_shards.new.out.items c.in_ok-put_version.ensures.ok
    (both_written (info_pair subdir) (shards_pair rows) c.put_version.new.out.items c.put_info.new.out.items c.put_shards.new.out.items c.in_ok-put_info.ensures.ok last))
    ∙ ap (λ (t : List ℕ). c.args.out.now.items ++ t) (index_parts subdir rows))
    c.put_shards.ensures.ok

pub returns-clause-kept : goal.returns-clause-kept
returns-clause-kept c =
    on_err c.put_shards.result (λ failed.
    kept_before (map_head 3) c.args.out.now.items c.put_map.new.out.items c.put_shards.new.out.items c.in_ok-put_map.ensures.ok
    (kept_before version_pair c.put_map.new.out.items c.put_version.new.out.items c.put_shards.new.out.items c.in_ok-put_version.ensures.ok
    (kept_before (info_pair c.args.subdir.now) c.put_version.new.out.items c.put_info.new.out.items c.put_shards.new.out.items c.in_ok-put_info.ensures.ok failed)))
    c.put_shards.ensures.kept
