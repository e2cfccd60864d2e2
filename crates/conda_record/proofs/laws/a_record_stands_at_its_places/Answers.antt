use Rattle.conda_record.proofs.PlacesLemmas.{record_at_places, fault_at_places, field_text}
use Rattle.conda_record.proofs.laws.a_record_stands_at_its_places.Goals as goal

pub returns-clause-read : goal.returns-clause-read
returns-clause-read c = record_at_places

pub returns-clause-refused : goal.returns-clause-refused
returns-clause-refused c = fault_at_places

pub returns-clause-text : goal.returns-clause-text
returns-clause-text c = field_text
