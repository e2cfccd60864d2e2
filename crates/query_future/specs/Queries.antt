-- A query, as contracts see it.
use Rattle.std.specs.Prelude.{◌≡◌, ◌==◌, ◌&&◌, ℕ, Bool, true, false, List, length, Option, Some}
use Rattle.std.specs.List.{sum}
use Rattle.link_io.specs.Conn.{LinkFacts}
use Rattle.link_io.specs.Origin.{Origin}
use Rattle.closure_request.specs.Request.{Asking}
use Rattle.closure_plan.specs.declared.need.Need.{Need}
use Rattle.flight_table.specs.Facts.{Facts}
use Rattle.flight_rows.specs.Sight.{Sight}
use Rattle.query_future.specs.declared.parts.Did.{Did}
use Rattle.query_future.specs.declared.parts.Due.{Due}
use Rattle.query_future.specs.declared.parts.Due.TheVariants as due
use Rattle.query_future.specs.declared.parts.Finished.{Finished}
use Rattle.query_future.specs.declared.parts.Hand.{Hand}
use Rattle.query_future.specs.declared.parts.Hand.TheVariants as hand
use Rattle.query_future.specs.declared.parts.Outcome.{Outcome}
use Rattle.query_future.specs.declared.parts.Outcome.TheVariants as outcome
use Rattle.query_future.specs.declared.parts.Work.{Work}
use Rattle.query_future.specs.Dues.{counted, due_by}
use Rattle.query_future.specs.Left.{Left}
use Rattle.query_future.specs.Stands.{Answers, Carries, Fails, HasRequest, IsCounted, KeepsRequest, Rests, Tracked, is_going}

-- a query: its pass, window and asks, what it works on, what it has in hand, and how often it did what
pub record Queried (L : Type 0) : Type 0 where
  pub track : Tracked
  pub work : Work L
  pub hand : Hand L
  pub counts : List ℕ

-- the section that is due
abbrev pub due_of : {L : Type 0} → Queried L → Due
due_of q = due_by q.track.pass.live q.hand q.work (length q.track.window)

-- whether it has a parcel in hand, or what became of one
abbrev pub is_in_hand : {L : Type 0} → Hand L → Bool
is_in_hand hand.Empty = false
is_in_hand (hand.Fresh p) = true
is_in_hand (hand.Stepped p) = true
is_in_hand (hand.Judged v u) = true
is_in_hand hand.Refused = true

-- the request of an outcome, where it has one
abbrev pub HadRequest : {L : Type 0} → Asking → Outcome L → Type 0
HadRequest r (outcome.Ok a) = a.known.request ≡ r
HadRequest r (outcome.Refused spec kind) = Unit {0}
HadRequest r (outcome.Failed part m v) = part.request ≡ r
HadRequest r outcome.Memory = Unit {0}

module _ {L : Type 0} (facts : L → LinkFacts) (from : L → Origin → Type 0) where
  -- what is so of each query by its type: a query that is over has nothing in hand and a decided ending
  pub record IsQuery (q : Queried L) : Type 0 where
    pub rests : Rests facts from q.work q.hand q.track
    pub over : q.track.pass.live ≡ false → (q.hand ≡ hand.Empty) × (is_going q.work ≡ false)

  -- one section: the table goes on, the query is one, with the same request, and one count is higher
  pub record Turns (s t : Sight) (old new : Queried L) (d : Did) : Type 0 where
    pub carries : Carries s t old.track.pass new.track.pass
    pub is_query : IsQuery new
    pub request : KeepsRequest old.work new.work
    pub counts : new.counts ≡ counted d old.counts

  -- what an outcome says beside its pass, what was asked for, and how often it was asked again
  abbrev pub Stood : Outcome L → Facts → List Need → ℕ → Type 0
  Stood (outcome.Ok a) f asked again = Answers facts from a f asked again
  Stood (outcome.Refused spec kind) f asked again = ⊥
  Stood (outcome.Failed part m v) f asked again = Fails facts from part m v.value f asked again
  Stood outcome.Memory f asked again = IsCounted f asked again

  -- what an ended query hands out
  pub record Finishes (q : Queried L) (f : Finished L) : Type 0 where
    pub query : f.query ≡ Some q.track.pass.query
    pub calls : f.calls ≡ q.track.pass.calls
    pub again : f.again ≡ q.track.again
    pub asked : f.asked.items ≡ q.track.asked
    pub stood : Stood f.outcome q.track.pass q.track.asked q.track.again
    pub request : (r : Asking) → HasRequest r q.work → HadRequest r f.outcome

-- what is left of a query: its turns are all that it did
pub record Leaves {L : Type 0} (q : Queried L) (u : Left) : Type 0 where
  pub query : u.query ≡ q.track.pass.query
  pub turns : u.turns ≡ sum q.counts
  pub parcel : u.has_parcel ≡ is_in_hand q.hand

-- whether a round of takes is over
abbrev pub is_round_over : {L : Type 0} → Queried L → Bool
is_round_over q = is_take (due_of q) && (q.track.cursor == length q.track.window)
  where
    is_take : Due → Bool
    is_take due.Take = true
    is_take _ = false

-- the cursor may stand at the first pair now, and nothing else changed
pub record BeginsRound {L : Type 0} (old new : Queried L) : Type 0 where
  pub pass : new.track.pass ≡ old.track.pass
  pub window : new.track.window ≡ old.track.window
  pub asked : new.track.asked ≡ old.track.asked
  pub again : new.track.again ≡ old.track.again
  pub hand : new.hand ≡ old.hand
  pub work : new.work ≡ old.work
  pub counts : new.counts ≡ old.counts
