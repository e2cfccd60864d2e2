use Rattle.std.proofs.Common.{◌≡◌, take, false}
use Rattle.store_closure.specs.Options.{has_text}
use Rattle.store_closure.proofs.words.has_channel.Given as goal

abbrev pub invariant-loop-name : goal.invariant-loop-name
invariant-loop-name l = has_text (take l.name-index l.names) l.text ≡ false
