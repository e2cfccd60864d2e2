use Rattle.std.proofs.Common.{sym, ap, ◌∙◌, append-nil}
use Rattle.flight_rows.specs.Sight.{Sight, hand_in}
use Rattle.flight_rows.proofs.table.Flights.ask.Goals as goal

pub hit-requires-clause-kept : goal.hit-requires-clause-kept
hit-requires-clause-kept g c = λ lifetimes outlives. (c.in-Kept.ensures.0, c.in-Kept.ensures.1)

pub join-requires-clause-flies : goal.join-requires-clause-flies
join-requires-clause-flies g c = λ lifetimes outlives. (c.in-Flying.ensures.0, c.in-Flying.ensures.1)

pub join-requires-clause-apart : goal.join-requires-clause-apart
join-requires-clause-apart g c = λ lifetimes outlives w. c.requires.apart c.in-Flying.f c.in-Flying.ensures.0 w c.in-Flying.ensures.1 c.in-Flying.ensures.2

pub returns-in_ok-value-in-Kept-clause-ok : goal.returns-in_ok-value-in-Kept-clause-ok
returns-in_ok-value-in-Kept-clause-ok g c = let w = c.in_ok-value-in-Kept.ensures.ok in (w.0, w.1, c.in-Kept.ensures, w.2)

pub returns-in_ok-join-in-Flying-clause-ok : goal.returns-in_ok-join-in-Flying-clause-ok
returns-in_ok-join-in-Flying-clause-ok g c =
    let e = c.in_ok-join-in-Flying.ensures.ok in (
      record { journal = ap (λ (s : Sight). s.journal) e; dialed = ap (λ (s : Sight). s.dialed) e ∙ sym (append-nil _); keep = ap (λ (s : Sight). s.keep) e; start = ap (λ (s : Sight). s.start) e; origin = ap (λ (s : Sight). s.origin) e },
      (λ n. ap (λ (s : Sight). hand_in s.hands n) e),
      c.in-Flying.ensures,
    )

pub returns-in_ok-f-in-Free-clause-ok : goal.returns-in_ok-f-in-Free-clause-ok
returns-in_ok-f-in-Free-clause-ok g c = let w = c.in_ok-f-in-Free.ensures.ok in (w.0, w.1, c.in-Free.ensures, w.2)
