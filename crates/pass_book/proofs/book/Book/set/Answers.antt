use Rattle.std.proofs.Common.{sym, ap, ◌∙◌, arith}
use Rattle.pass_book.specs.View.{taken_in, changed}
use Rattle.pass_book.proofs.StepLemmas.{takes_in_as, changes_as, gives_as, head_is}
use Rattle.pass_book.proofs.book.Book.set.Goals as goal

pub join_seat-requires : goal.join_seat-requires
join_seat-requires g c =
    let i = c.self.invariant in
    let j = c.slip.invariant in
    let one = i.2 in
    let s = c.into_seat.ensures in
    let was = c.replace-badge.ensures.value in (
      i.1 ∙ sym i.0,
      s.0 ∙ ap (λ b. b.table_id) was ∙ j.0 ∙ sym i.0,
      s.3,
      omega arith,
      takes_in_as _ _ _ _ _ _ _ (ap (λ m. m.0) i.3) (head_is (sym s.2 ∙ ap (λ b. b.views) was ∙ j.1)),
    )

pub load-requires : goal.load-requires
load-requires g c =
    let i = c.self.invariant in
    let j = c.slip.invariant in
    let one = i.2 in
    let s = c.into_seat.ensures in
    let was = c.replace-badge.ensures.value in
    let e = c.join_seat.ensures in
    let w = head_is (sym s.2 ∙ ap (λ b. b.views) was ∙ j.1) in
    (e.0 ∙ i.1 ∙ sym i.0, omega arith, changes_as _ _ _ _ _ _ _ (e.2 ∙ (λ k. (taken_in (i.3 k).0 (w k), (i.3 k).1))))

pub split_seat-requires : goal.split_seat-requires
split_seat-requires g c =
    let i = c.self.invariant in
    let j = c.slip.invariant in
    let one = i.2 in
    let s = c.into_seat.ensures in
    let was = c.replace-badge.ensures.value in
    let e = c.join_seat.ensures in
    let l = c.load.ensures in
    let w = head_is (sym s.2 ∙ ap (λ b. b.views) was ∙ j.1) in
    (l.0 ∙ e.0 ∙ i.1 ∙ sym i.0, omega arith, gives_as _ _ _ _ _ (ap (λ m. m.0) l.2.0 ∙ ap (λ m. changed m.0 g.W.NewLine.line) (e.2 ∙ (λ k. (taken_in (i.3 k).0 (w k), (i.3 k).1)))))
