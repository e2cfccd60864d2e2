use Rattle.std.proofs.Common.{sym, ◌∙◌}
use Rattle.conda_record.proofs.OutcomeLemmas.{is_found, is_first, is_only, is_only_refused}
use Rattle.conda_record.proofs.spans.RecordSpans.read.Goals as goal

pub returns-then-is_ok-clause-found : goal.returns-then-is_ok-clause-found
returns-then-is_ok-clause-found c = is_found c.args.cur.now c.read_here-read.new.cur c.read_here-read.result (rw (sym c.copy-ahead.ensures.same) c.read_here-read.ensures)

pub returns-then-is_ok-clause-only : goal.returns-then-is_ok-clause-only
returns-then-is_ok-clause-only c = is_only c.args.cur.now c.read_here-read.new.cur c.read_here-read.result (rw (sym c.copy-ahead.ensures.same) c.read_here-read.ensures)

pub returns-else-is_ok-clause-only : goal.returns-else-is_ok-clause-only
returns-else-is_ok-clause-only c = is_only_refused c.args.cur.now c.read_here-read.new.cur c.read_here-read.result c.args.cur.now (sym c.is_ok.ensures.value ∙ c.if-is_ok.false) (rw (sym c.copy-ahead.ensures.same) c.read_here-read.ensures)

pub returns-else-is_ok-clause-fault : goal.returns-else-is_ok-clause-fault
returns-else-is_ok-clause-fault c = is_first c.args.cur.now c.read_here-read.new.cur c.read_here-read.result (rw (sym c.copy-ahead.ensures.same) c.read_here-read.ensures)
