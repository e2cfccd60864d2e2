-- What a parcel is to a contract: one exchange over a connection.
use Rattle.std.specs.Prelude.{◌≡◌, ℕ, ◌+◌, ◌-◌, ◌^◌, ◌≤◌, ◌<◌, min, List, [], ◌++◌, length, Bool, true, false, IfSome}
use Rattle.link_io.specs.declared.target.Target.{Target}
use Rattle.link_io.specs.declared.conn.Sent.{Sent}
use Rattle.link_io.specs.declared.conn.Sent.TheVariants as sending
use Rattle.link_io.specs.declared.conn.Step.{Step}
use Rattle.link_io.specs.declared.conn.Step.TheVariants as stepping
use Rattle.link_io.specs.Conn.{LinkFacts, IsSameLink, IsAllGiven, Steps}

-- a parcel over a link
pub record Packed (L : Type 0) : Type 0 where
  pub target : Target
  pub link : L
  pub sent : ℕ
  pub received : List ℕ
  pub ended : Bool
  pub broken : Bool

-- what is known of each parcel
pub record IsParcel {L : Type 0} (facts : L → LinkFacts) (p : Packed L) : Type 0 where
  pub target : (facts p.link).target ≡ p.target
  pub received : IfSome (facts p.link).given (λ g. g ≡ p.received)
  pub ended : p.ended ≡ true → IsAllGiven (facts p.link)
  pub broken : p.broken ≡ true → 0 < (facts p.link).faults

-- a parcel over which nothing went
abbrev pub new_parcel : {L : Type 0} → Target → L → Packed L
new_parcel target link = record { target = target; link = link; sent = 0; received = []; ended = false; broken = false }

-- a count behind n more; it stands still at its type's end
abbrev pub count_on : ℕ → ℕ → ℕ
count_on count n = min (count + n) (2 ^ 64 - 1)

-- the parcel behind an answer to sending
abbrev pub after_send : {L : Type 0} → Packed L → L → Sent → Packed L
after_send p link (sending.Took n) = record p { link = link; sent = count_on p.sent n }
after_send p link sending.NotYet = record p { link = link }
after_send p link sending.Failed = record p { link = link; broken = true }

-- the parcel behind an answer to a step that gave these bytes
abbrev pub after_step : {L : Type 0} → Packed L → L → List ℕ → Step → Packed L
after_step p link piece (stepping.Got n) = record p { link = link; received = p.received ++ piece }
after_step p link piece stepping.End = record p { link = link; ended = true }
after_step p link piece stepping.NotYet = record p { link = link }
after_step p link piece stepping.Failed = record p { link = link; broken = true }

-- how many bytes a step gave
abbrev pub count_in : Step → ℕ
count_in (stepping.Got n) = n
count_in stepping.End = 0
count_in stepping.NotYet = 0
count_in stepping.Failed = 0

-- a step into a room behind some bytes: what it did to the link, and what stands behind them now
abbrev pub Behind : (old new : LinkFacts) (before now : List ℕ) → ℕ → Step → Type 0
Behind old new before now room (stepping.Got n) = (piece : List ℕ) × (now ≡ before ++ piece) × (length piece ≡ n) × (n ≤ room) × Steps old new piece (stepping.Got n)
Behind old new before now room answer = (now ≡ before) × Steps old new [] answer

-- the same, and what no call changes
pub record StepsBehind (room : ℕ) (old new : LinkFacts) (before now : List ℕ) (answer : Step) : Type 0 where
  pub same : IsSameLink old new
  pub behind : Behind old new before now room answer

-- what a step of a parcel with so much room says
pub record Stepped {L : Type 0} (facts : L → LinkFacts) (room : ℕ) (old new : Packed L) (answer : Step) : Type 0 where
  pub piece : List ℕ
  pub count : length piece ≡ count_in answer
  pub within : length piece ≤ room
  pub same : IsSameLink (facts old.link) (facts new.link)
  pub steps : Steps (facts old.link) (facts new.link) piece answer
  pub after : new ≡ after_step old new.link piece answer
