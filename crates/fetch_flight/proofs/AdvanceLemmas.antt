-- What one call did, as an answer of `advance` says it.
use Rattle.std.proofs.Common.{◌≡◌, ◌⊎◌, inl, inr, ℕ, ◌+◌, ◌^◌, ◌≤◌, ◌<◌, true, false, ◌++◌, length, length-append, drop, sym, ◌∙◌, subst, ap, arith}
use Rattle.std.proofs.lemmas.List.{length-drop}
use Rattle.link_io.specs.declared.conn.Sent.{Sent}
use Rattle.link_io.specs.declared.conn.Sent.TheVariants as sending
use Rattle.link_io.specs.declared.conn.Step.{Step}
use Rattle.link_io.specs.declared.conn.Step.TheVariants as stepping
use Rattle.link_io.specs.Conn.{LinkFacts}
use Rattle.link_io.specs.Parcel.{Packed, count_on, Stepped}
use Rattle.fetch_flight.specs.declared.flying.Progress.{Progress}
use Rattle.fetch_flight.specs.declared.flying.Progress.TheVariants as progress
use Rattle.http_reply.specs.Request.{request_bytes}
use Rattle.fetch_flight.specs.Advance.{step_room, Asks, Listens, progress_of, Advances, WhereGoing, WhereDone, Moves}
use Rattle.http_reply.specs.Going.{IsUndecided, IsDecided, IsGoing}

count-short : (count n : ℕ) → count + n < 2 ^ 64 → count_on count n ≡ count + n
count-short count n short = omega arith

module _ {L : Type 0} (facts : L → LinkFacts) (old new : Packed L) where
  pub of-sent : (answer : Sent) → IsUndecided old → Asks facts old new answer → Advances facts old new (progress_of answer)
  of-sent (sending.Took n) unsettled asks = (subst (λ (p : Packed L). IsUndecided p) (sym asks.after) unsettled, inl asks)
  of-sent sending.NotYet unsettled asks = (subst (λ (p : Packed L). IsUndecided p) (sym asks.after) unsettled, inl asks)
  of-sent sending.Failed unsettled asks = inl asks

  -- a request that was sent, and a step
  pub listens : (answer : Step) → length (request_bytes old.target.url) ≤ old.sent → Stepped facts step_room old new answer → Listens facts old new answer
  listens answer asked stepped = record { asked = asked; stepped = stepped }

  pub still-open : IsUndecided old → Listens facts old new stepping.NotYet → Advances facts old new progress.NotYet
  still-open unsettled l = (subst (λ (p : Packed L). IsUndecided p) (sym l.stepped.after) unsettled, inr l)

  pub ends : Listens facts old new stepping.End → new.ended ≡ true
  ends l = ap (λ (p : Packed L). p.ended) l.stepped.after

  -- ---- what follows from what a call says

  pub target_same : (answer : Progress) → Advances facts old new answer → new.target ≡ old.target
  target_same (progress.Took n) (u, inl a) = ap (λ (p : Packed L). p.target) a.after
  target_same (progress.Took n) (u, inr l) = ap (λ (p : Packed L). p.target) l.stepped.after
  target_same progress.NotYet (u, inl a) = ap (λ (p : Packed L). p.target) a.after
  target_same progress.NotYet (u, inr l) = ap (λ (p : Packed L). p.target) l.stepped.after
  target_same progress.Ready (d, inl l) = ap (λ (p : Packed L). p.target) l.stepped.after
  target_same progress.Ready (d, inr (n, l)) = ap (λ (p : Packed L). p.target) l.stepped.after
  target_same progress.Failed (inl a) = ap (λ (p : Packed L). p.target) a.after
  target_same progress.Failed (inr l) = ap (λ (p : Packed L). p.target) l.stepped.after
  target_same progress.Memory same = ap (λ (p : Packed L). p.target) same

  pub is_going : (answer : Progress) → old.broken ≡ false → Advances facts old new answer → WhereGoing answer (IsGoing new)
  is_going (progress.Took n) whole (u, inl a) = record { whole = ap (λ (p : Packed L). p.broken) a.after ∙ whole; undecided = u }
  is_going (progress.Took n) whole (u, inr l) = record { whole = ap (λ (p : Packed L). p.broken) l.stepped.after ∙ whole; undecided = u }
  is_going progress.NotYet whole (u, inl a) = record { whole = ap (λ (p : Packed L). p.broken) a.after ∙ whole; undecided = u }
  is_going progress.NotYet whole (u, inr l) = record { whole = ap (λ (p : Packed L). p.broken) l.stepped.after ∙ whole; undecided = u }
  is_going progress.Ready whole says = tt
  is_going progress.Failed whole says = tt
  is_going progress.Memory whole says = tt

  pub is_done : (answer : Progress) → Advances facts old new answer → WhereDone answer ((new.broken ≡ true) ⊎ IsDecided new)
  is_done progress.Ready says = inr says.0
  is_done progress.Failed (inl a) = inl (ap (λ (p : Packed L). p.broken) a.after)
  is_done progress.Failed (inr l) = inl (ap (λ (p : Packed L). p.broken) l.stepped.after)
  is_done (progress.Took n) says = tt
  is_done progress.NotYet says = tt
  is_done progress.Memory says = tt

  -- a request's length is below where a count stands still
  pub moves : (answer : Progress) → length (request_bytes old.target.url) < 2 ^ 64 → Advances facts old new answer → Moves old new answer
  moves (progress.Took n) short (u, inl a) =
      let all : n ≤ length (drop old.sent (request_bytes old.target.url)) = a.sends.within in
      let sent : new.sent ≡ count_on old.sent n = ap (λ (p : Packed L). p.sent) a.after in
      let counted : count_on old.sent n ≡ old.sent + n = count-short old.sent n (omega (arith, all, short, a.left, length-drop old.sent (request_bytes old.target.url))) in
      let received : length new.received ≡ length old.received = ap (λ (p : Packed L). length p.received) a.after in
      (a.sends.some, omega (arith, sent, counted, received))
  moves (progress.Took n) short (u, inr l) =
      let sent : new.sent ≡ old.sent = ap (λ (p : Packed L). p.sent) l.stepped.after in
      let received : length new.received ≡ length (old.received ++ l.stepped.piece) = ap (λ (p : Packed L). length p.received) l.stepped.after in
      (l.stepped.steps.some, omega (arith, sent, received, length-append old.received l.stepped.piece, l.stepped.count))
  moves progress.NotYet short says = tt
  moves progress.Ready short says = tt
  moves progress.Failed short says = tt
  moves progress.Memory short says = tt
