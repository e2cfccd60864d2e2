use Rattle.std.proofs.Common.{arith}
use Rattle.store_closure.proofs.PieceLemmas.{one_piece, first_piece, shorter_rest}
use Rattle.store_closure.proofs.words.cut.Goals as goal

pub returns-in-Some-clause-pieces : goal.returns-in-Some-clause-pieces
returns-in-Some-clause-pieces c =
    let h = rw c.in-Some.is at (c.split_once.ensures.byte (omega arith) (λ w o f. f)) in
    first_piece c.args.text.now c.in-Some.piece.now c.in-Some.rest.now h.0 h.1 h.2

pub returns-in-Some-clause-shorter : goal.returns-in-Some-clause-shorter
returns-in-Some-clause-shorter c =
    let h = rw c.in-Some.is at (c.split_once.ensures.byte (omega arith) (λ w o f. f)) in
    shorter_rest c.args.text.now c.in-Some.rest.now h.1 h.2

pub returns-in-None-clause-pieces : goal.returns-in-None-clause-pieces
returns-in-None-clause-pieces c = one_piece c.args.text.now (rw c.in-None.is at (c.split_once.ensures.byte (omega arith) (λ w o f. f)))
