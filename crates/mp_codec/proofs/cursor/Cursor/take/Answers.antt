use Rattle.mp_codec.proofs.CursorLemmas.{take_found, take_fault}
use Rattle.mp_codec.proofs.SpanLemmas.{take_stays}
use Rattle.mp_codec.proofs.cursor.Cursor.take.Goals as goal

pub returns-clause-found : goal.returns-clause-found
returns-clause-found c = take_found c.args.len c.args.self.now c.next_bytes.new.self c.next_bytes.result c.next_bytes.ensures

pub returns-clause-fault : goal.returns-clause-fault
returns-clause-fault c = take_fault c.args.len c.args.self.now c.next_bytes.new.self c.next_bytes.result c.next_bytes.ensures

pub returns-clause-within : goal.returns-clause-within
returns-clause-within c = λ bytes i. take_stays bytes c.args.len c.args.self.now c.next_bytes.new.self c.next_bytes.result c.next_bytes.ensures i
