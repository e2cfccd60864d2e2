use Rattle.std.proofs.Common.{rules, ◌≡◌, ◌==◌, false, length}
use Rattle.std.specs.List.{take_while}
use Rattle.conda_name.specs.Name.{is_name_byte}
use Rattle.conda_name.proofs.NameLemmas.{found-reads, run-ascii, run-reads}
use Rattle.conda_name.proofs.dependency.dependency_name.Goals as goal

pub ascii_text-requires : goal.ascii_text-requires
ascii_text-requires c =
    let run : c.split_at.result.0.now ≡ take_while is_name_byte c.skip_blanks-front.result.now = search rules in
    run-ascii c.skip_blanks-front.result.now c.split_at.result.0.now run

pub returns-clause-legal : goal.returns-clause-legal
returns-clause-legal c =
    let run : c.split_at.result.0.now ≡ take_while is_name_byte c.skip_blanks-front.result.now = search rules in
    let some : (length c.split_at.result.0.now == 0) ≡ false = search rules in
    found-reads c.ascii_text.result c.split_at.result.0.now c.ascii_text.ensures
    (run-reads c.skip_blanks-front.result.now c.split_at.result.0.now run some)
