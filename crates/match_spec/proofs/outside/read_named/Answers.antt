use Rattle.std.proofs.Common.{rules, ◌≡◌, ◌==◌, false, length}
use Rattle.std.specs.List.{take_while}
use Rattle.conda_name.specs.Name.{is_name_byte}
use Rattle.conda_name.proofs.NameLemmas.{run-ascii, run-reads}
use Rattle.match_spec.proofs.outside.read_named.Goals as goal

pub read_before-requires-clause-ascii : goal.read_before-requires-clause-ascii
read_before-requires-clause-ascii c =
    let run : c.split_at.result.0.now ≡ take_while is_name_byte c.begun-p.result.text.now = search rules in
    run-ascii c.begun-p.result.text.now c.split_at.result.0.now run

pub read_before-requires-clause-legal : goal.read_before-requires-clause-legal
read_before-requires-clause-legal c =
    let run : c.split_at.result.0.now ≡ take_while is_name_byte c.begun-p.result.text.now = search rules in
    let some : (length c.split_at.result.0.now == 0) ≡ false = search rules in
    run-reads c.begun-p.result.text.now c.split_at.result.0.now run some
