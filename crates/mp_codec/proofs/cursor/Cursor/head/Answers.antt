use Rattle.mp_codec.proofs.CursorLemmas.{head_found, head_only, head_fault_breaks}
use Rattle.mp_codec.proofs.SpanLemmas.{head_stays}
use Rattle.mp_codec.proofs.cursor.Cursor.head.Goals as goal

pub returns-clause-found : goal.returns-clause-found
returns-clause-found c = head_found c.args.self.now c.next_head.new.self c.next_head.result c.next_head.ensures

pub returns-clause-only : goal.returns-clause-only
returns-clause-only c = head_only c.args.self.now c.next_head.new.self c.next_head.result c.next_head.ensures

pub returns-clause-fault : goal.returns-clause-fault
returns-clause-fault c = head_fault_breaks c.args.self.now c.next_head.new.self c.next_head.result c.next_head.ensures

pub returns-clause-within : goal.returns-clause-within
returns-clause-within c = λ bytes i. head_stays bytes c.args.self.now c.next_head.new.self c.next_head.result c.next_head.ensures i
