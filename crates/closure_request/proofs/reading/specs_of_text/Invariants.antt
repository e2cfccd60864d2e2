use Rattle.std.proofs.Common.{◌≡◌, ◌+◌, length}
use Rattle.closure_request.specs.Reading.{pieces, specs_from}
use Rattle.closure_request.specs.Seen.{pieces_left, size_left}
use Rattle.closure_request.proofs.ReadingLemmas.{behind}
use Rattle.closure_request.proofs.reading.specs_of_text.Given as goal

abbrev pub invariant-pieces : goal.invariant-pieces
invariant-pieces l = behind l.specs.items (specs_from (length l.specs.items + 1) (pieces_left l.left)) ≡ specs_from 1 (pieces l.text)

abbrev pub decreases-pieces : goal.decreases-pieces
decreases-pieces l = size_left l.left
