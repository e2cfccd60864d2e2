-- What contracts see of what an answer lends.
use Rattle.std.specs.Prelude.{ℕ}
use Rattle.std.specs.Borrow.{Bor}
use Rattle.closure_plan.specs.Names.{Name}
use Rattle.closure_plan.specs.Closure.{Found}
use Rattle.closure_plan.specs.Plan.{Placed}
use Rattle.closure_plan.specs.declared.answer.AnswerRow.{AnswerRow}
use Rattle.conda_record.specs.View.{seen}

-- the shard that is lent, by its slot, its name and what holds it
abbrev pub leaf_shown : {H : Type 0} → ℕ × Bor Name × Bor H → Placed H
leaf_shown l = record { slot = l.0; name = l.1.now; holder = l.2.now }

-- the row that is lent
abbrev pub row_shown : AnswerRow → Found
row_shown r = record {
  channel = r.channel.now;
  subdir = r.subdir.now;
  row = record { file = r.file.now; conda = r.conda; fields = seen r.view };
}
