use Rattle.std.proofs.Common.{sym, ap, ◌∙◌, arith}
use Rattle.pass_book.specs.View.{issued}
use Rattle.pass_book.proofs.StepLemmas.{issues_as, gives_as}
use Rattle.pass_book.proofs.book.Book.issue.Goals as goal

pub load-requires : goal.load-requires
load-requires g c =
    let i = c.self.invariant in
    let one = i.2 in
    (i.1 ∙ sym i.0, omega arith, issues_as _ _ _ _ _ i.3)

pub split_seat-seat-requires : goal.split_seat-seat-requires
split_seat-seat-requires g c =
    let i = c.self.invariant in
    let one = i.2 in
    let e = c.load.ensures in
    (e.0 ∙ i.1 ∙ sym i.0, omega arith, gives_as _ _ _ _ _ (ap (λ m. m.0) e.2 ∙ ap (λ m. issued m.0 g.W.NewLine.line) i.3))
