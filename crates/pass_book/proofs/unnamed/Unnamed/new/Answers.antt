use Rattle.pass_book.proofs.StepLemmas.{begins}
use Rattle.pass_book.proofs.unnamed.Unnamed.new.Goals as goal

pub of_words-requires : goal.of_words-requires
of_words-requires g c = begins
