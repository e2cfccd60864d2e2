use Rattle.conda_record.specs.View.{seen}
use Rattle.conda_record.proofs.PlacesLemmas.{places_found}
use Rattle.conda_record.proofs.spans.RecordSpans.view.Goals as goal

pub returns-clause-shown : goal.returns-clause-shown
unfolding seen
returns-clause-shown c = λ here there i e. places_found c.args.bytes.now here there c.args.self.now i e
