use Rattle.mp_codec.proofs.AppendLemmas.{on_ok}
use Rattle.conda_record.proofs.WrittenLemmas.{read_again}
use Rattle.conda_record.proofs.record.PackageRecord.write.Goals as goal

pub returns-clause-read_again : goal.returns-clause-read_again
returns-clause-read_again c = rw c.cut_back.ensures.same (on_ok c.put-outcome.result (read_again c.args.self.now c.requires) c.put-outcome.ensures.fields)
