use Rattle.std.proofs.Common.{◌≡◌, ◌≤◌, length}
use Rattle.store_closure.specs.Lines.{input_lines}
use Rattle.store_closure.proofs.LoopLemmas.{SoFar}
use Rattle.store_closure.proofs.asked.StoreRequests.answers.Given as goal

abbrev pub invariant-lines : goal.invariant-lines
invariant-lines g l =
    SoFar (g.S.Store.files l.initial.store) l.self (input_lines l.input) l.number (input_lines l.left) l.text.items l.refused
    × (g.S.Store.files l.store ≡ g.S.Store.files l.initial.store) × (g.S.Store.faults l.initial.store ≤ g.S.Store.faults l.store)

abbrev pub decreases-lines : goal.decreases-lines
decreases-lines g l = length l.left
