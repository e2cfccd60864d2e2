-- One call on the connection of a flight.
use Rattle.std.specs.Prelude.{⊤, ◌≡◌, ◌⊎◌, ℕ, ◌+◌, ◌≤◌, ◌<◌, length, drop}
use Rattle.link_io.specs.declared.conn.Sent.{Sent}
use Rattle.link_io.specs.declared.conn.Sent.TheVariants as sending
use Rattle.link_io.specs.declared.conn.Step.{Step}
use Rattle.link_io.specs.declared.conn.Step.TheVariants as stepping
use Rattle.link_io.specs.Conn.{LinkFacts, IsSameLink, Sends}
use Rattle.link_io.specs.Parcel.{Packed, after_send, Stepped}
use Rattle.fetch_flight.specs.declared.flying.Progress.{Progress}
use Rattle.fetch_flight.specs.declared.flying.Progress.TheVariants as progress
use Rattle.http_reply.specs.Request.{request_bytes}
use Rattle.http_reply.specs.Going.{IsUndecided, IsDecided}

-- the most bytes of one step
abbrev pub step_room : ℕ
step_room = 16384

-- a part of what is left of the request was sent
pub record Asks {L : Type 0} (facts : L → LinkFacts) (old new : Packed L) (answer : Sent) : Type 0 where
  pub left : old.sent < length (request_bytes old.target.url)
  pub same : IsSameLink (facts old.link) (facts new.link)
  pub sends : Sends (facts old.link) (facts new.link) (drop old.sent (request_bytes old.target.url)) answer
  pub after : new ≡ after_send old new.link answer

-- the request is sent, and a step was made
pub record Listens {L : Type 0} (facts : L → LinkFacts) (old new : Packed L) (answer : Step) : Type 0 where
  pub asked : length (request_bytes old.target.url) ≤ old.sent
  pub stepped : Stepped facts step_room old new answer

-- what came of sending a part of the request
abbrev pub progress_of : Sent → Progress
progress_of (sending.Took n) = progress.Took n
progress_of sending.NotYet = progress.NotYet
progress_of sending.Failed = progress.Failed

-- what an answer of `advance` says
abbrev pub Advances : {L : Type 0} → (L → LinkFacts) → Packed L → Packed L → Progress → Type 0
Advances facts old new (progress.Took n) =
    IsUndecided new × (Asks facts old new (sending.Took n) ⊎ Listens facts old new (stepping.Got n))
Advances facts old new progress.NotYet =
    IsUndecided new × (Asks facts old new sending.NotYet ⊎ Listens facts old new stepping.NotYet)
Advances facts old new progress.Ready =
    IsDecided new × (Listens facts old new stepping.End ⊎ ((n : ℕ) × Listens facts old new (stepping.Got n)))
Advances facts old new progress.Failed =
    Asks facts old new sending.Failed ⊎ Listens facts old new stepping.Failed
Advances facts old new progress.Memory = new ≡ old

-- a fact that holds behind a call that neither decided the parcel nor failed
abbrev pub WhereGoing : Progress → Type 0 → Type 0
WhereGoing (progress.Took n) fact = fact
WhereGoing progress.NotYet fact = fact
WhereGoing progress.Ready fact = ⊤
WhereGoing progress.Failed fact = ⊤
WhereGoing progress.Memory fact = ⊤

-- a fact that holds behind one that did
abbrev pub WhereDone : Progress → Type 0 → Type 0
WhereDone progress.Ready fact = fact
WhereDone progress.Failed fact = fact
WhereDone (progress.Took n) fact = ⊤
WhereDone progress.NotYet fact = ⊤
WhereDone progress.Memory fact = ⊤

-- the bytes that went over a parcel, both ways
abbrev pub bytes_moved : {L : Type 0} → Packed L → ℕ
bytes_moved p = p.sent + length p.received

-- a call that took n bytes moved so many
abbrev pub Moves : {L : Type 0} → Packed L → Packed L → Progress → Type 0
Moves old new (progress.Took n) = (1 ≤ n) × (bytes_moved new ≡ bytes_moved old + n)
Moves old new progress.NotYet = ⊤
Moves old new progress.Ready = ⊤
Moves old new progress.Failed = ⊤
Moves old new progress.Memory = ⊤
