use Rattle.std.proofs.Common.{◌∙◌, ap, ◌++◌, ℕ, List, false, true}
use Rattle.std.specs.Prelude.{codes}
use Rattle.mp_codec.specs.Writing.{map_head}
use Rattle.mp_codec.proofs.AppendLemmas.{on_ok, on_ok_too, on_err, both_written, kept_before}
use Rattle.shard_file.specs.Writing.{files_pair, removed_pair}
use Rattle.shard_file.proofs.UnderLemmas.{both_readable, shard_parts}
use Rattle.shard_file.proofs.writing.put_shard.Goals as goal

pub returns-clause-ok : goal.returns-clause-ok
returns-clause-ok c =
    let rows = c.args.files.now in
    let packages : List ℕ = files_pair (codes "packages") false rows in
    let conda : List ℕ = files_pair (codes "packages.conda") true rows in
    on_ok c.put_removed.result (λ last.
    both_written (map_head 3) (packages ++ (conda ++ removed_pair)) c.args.out.now.items c.put_map.new.out.items c.put_removed.new.out.items c.in_ok-put_map.ensures.ok
    (both_written packages (conda ++ removed_pair) c.put_map.new.out.items c.put_files.new.out.items c.put_removed.new.out.items c.in_ok-put_files.ensures.ok
    (both_written conda removed_pair c.put_files.new.out.items c.put_files-2.new.out.items c.put_removed.new.out.items c.in_ok-put_files-2.ensures.ok last))
    ∙ ap (λ (t : List ℕ). c.args.out.now.items ++ t) (shard_parts rows))
    c.put_removed.ensures.ok

pub returns-clause-kept : goal.returns-clause-kept
returns-clause-kept c =
    let rows = c.args.files.now in
    on_err c.put_removed.result (λ failed.
    kept_before (map_head 3) c.args.out.now.items c.put_map.new.out.items c.put_removed.new.out.items c.in_ok-put_map.ensures.ok
    (kept_before (files_pair (codes "packages") false rows) c.put_map.new.out.items c.put_files.new.out.items c.put_removed.new.out.items c.in_ok-put_files.ensures.ok
    (kept_before (files_pair (codes "packages.conda") true rows) c.put_files.new.out.items c.put_files-2.new.out.items c.put_removed.new.out.items c.in_ok-put_files-2.ensures.ok failed)))
    c.put_removed.ensures.kept

pub returns-clause-rows : goal.returns-clause-rows
returns-clause-rows c = on_ok_too c.put_removed.result (both_readable c.args.files.now c.in_ok-put_files.ensures.rows c.in_ok-put_files-2.ensures.rows)
