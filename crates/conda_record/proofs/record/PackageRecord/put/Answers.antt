use Rattle.std.proofs.Common.{◌≡◌, ◌∙◌, ap, ◌++◌, ℕ, List}
use Rattle.mp_codec.specs.Writing.{map_head}
use Rattle.conda_record.specs.Writing.{key_count, first_pairs, middle_pairs, last_pairs}
use Rattle.mp_codec.proofs.AppendLemmas.{on_ok, on_err, on_err_too, both_written, kept_before}
use Rattle.conda_record.proofs.WrittenLemmas.{record_parts}
use Rattle.conda_record.proofs.record.PackageRecord.put.Goals as goal

pub returns-in_err-put_middle-clause-kept : goal.returns-in_err-put_middle-clause-kept
returns-in_err-put_middle-clause-kept c =
    let f = c.args.self.now in
    let head : c.put_map.new.out.items ≡ c.args.out.now.items ++ map_head (key_count f) = c.in_ok-put_map.ensures.ok ∙ ap (λ (n : ℕ). c.args.out.now.items ++ map_head n) c.key_count.ensures in
    on_err_too c.from_residual-in_err-put_middle.result
    (kept_before (map_head (key_count f)) c.args.out.now.items c.put_map.new.out.items c.put_middle.new.out.items head
    (kept_before (first_pairs f) c.put_map.new.out.items c.put_first.new.out.items c.put_middle.new.out.items c.in_ok-put_first.ensures.ok c.in_err-put_middle.ensures.kept))

pub returns-clause-ok : goal.returns-clause-ok
returns-clause-ok c =
    let f = c.args.self.now in
    let head : c.put_map.new.out.items ≡ c.args.out.now.items ++ map_head (key_count f) = c.in_ok-put_map.ensures.ok ∙ ap (λ (n : ℕ). c.args.out.now.items ++ map_head n) c.key_count.ensures in
    on_ok c.put_last.result (λ last.
    both_written (map_head (key_count f)) (first_pairs f ++ (middle_pairs f ++ last_pairs f)) c.args.out.now.items c.put_map.new.out.items c.put_last.new.out.items head
    (both_written (first_pairs f) (middle_pairs f ++ last_pairs f) c.put_map.new.out.items c.put_first.new.out.items c.put_last.new.out.items c.in_ok-put_first.ensures.ok
    (both_written (middle_pairs f) (last_pairs f) c.put_first.new.out.items c.put_middle.new.out.items c.put_last.new.out.items c.in_ok-put_middle.ensures.ok last))
    ∙ ap (λ (t : List ℕ). c.args.out.now.items ++ t) (record_parts f))
    c.put_last.ensures.ok

pub returns-clause-kept : goal.returns-clause-kept
returns-clause-kept c =
    let f = c.args.self.now in
    let head : c.put_map.new.out.items ≡ c.args.out.now.items ++ map_head (key_count f) = c.in_ok-put_map.ensures.ok ∙ ap (λ (n : ℕ). c.args.out.now.items ++ map_head n) c.key_count.ensures in
    on_err c.put_last.result (λ failed.
    kept_before (map_head (key_count f)) c.args.out.now.items c.put_map.new.out.items c.put_last.new.out.items head
    (kept_before (first_pairs f) c.put_map.new.out.items c.put_first.new.out.items c.put_last.new.out.items c.in_ok-put_first.ensures.ok
    (kept_before (middle_pairs f) c.put_first.new.out.items c.put_middle.new.out.items c.put_last.new.out.items c.in_ok-put_middle.ensures.ok failed)))
    c.put_last.ensures.kept
