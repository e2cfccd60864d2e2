use Rattle.flight_journal.specs.State.{nothing}
use Rattle.flight_journal.proofs.PushLemmas.{after_push, legal_push, legal_front_from, begun_push}
use Rattle.flight_journal.proofs.laws.a_journal_grows.Goals as goal

pub returns : goal.returns
returns c = record {
  state = after_push;
  legal = legal_push;
  front = λ budget es e legal. legal_front_from budget nothing es e legal;
  begun = begun_push;
}
