use Rattle.std.proofs.Common.{◌≡◌, drop}
use Rattle.store_closure.specs.Options.{none_met, with_words}
use Rattle.store_closure.proofs.words.options.Given as goal

abbrev pub invariant-loop-word : goal.invariant-loop-word
invariant-loop-word l = with_words l.met (drop l.word-index l.words) ≡ with_words none_met l.words
