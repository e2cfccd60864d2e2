use Rattle.std.proofs.Common.{sym, ap, ◌∙◌, arith}
use Rattle.pass_book.specs.View.{taken_in}
use Rattle.pass_book.proofs.StepLemmas.{takes_in_as, removes_as, head_is}
use Rattle.pass_book.proofs.book.Book.take_back.Goals as goal

pub join_seat-requires : goal.join_seat-requires
join_seat-requires g c =
    let i = c.self.invariant in
    let j = c.slip.invariant in
    let one = i.2 in
    let s = c.into_seat.ensures in (
      i.1 ∙ sym i.0,
      s.0 ∙ j.0 ∙ sym i.0,
      s.3,
      omega arith,
      takes_in_as _ _ _ _ _ _ _ (ap (λ m. m.0) i.3) (head_is (sym s.2 ∙ j.1)),
    )

pub load-requires : goal.load-requires
load-requires g c =
    let i = c.self.invariant in
    let j = c.slip.invariant in
    let one = i.2 in
    let s = c.into_seat.ensures in
    let e = c.join_seat.ensures in
    let w = head_is (sym s.2 ∙ j.1) in
    (e.0 ∙ i.1 ∙ sym i.0, omega arith, removes_as _ _ _ _ _ _ (e.2 ∙ (λ k. (taken_in (i.3 k).0 (w k), (i.3 k).1))))
