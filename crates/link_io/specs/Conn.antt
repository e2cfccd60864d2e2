-- What contracts see of a connection, and what its calls say.
use Rattle.std.specs.Prelude.{◌≡◌, ℕ, ◌≤◌, List, [], ◌++◌, length, take, true, Option, Some, IfSome, is_some}
use Rattle.std.specs.Io.KnownBytes.{append_known}
use Rattle.gateway_words.specs.Causes.{Rose}
use Rattle.link_io.specs.declared.target.Target.{Target}
use Rattle.link_io.specs.declared.conn.Sent.{Sent}
use Rattle.link_io.specs.declared.conn.Sent.TheVariants as sending
use Rattle.link_io.specs.declared.conn.Step.{Step}
use Rattle.link_io.specs.declared.conn.Step.TheVariants as stepping
use Rattle.link_io.specs.Origin.{Replies, reply_at}

-- a connection
pub record LinkFacts : Type 0 where
  pub target : Target
  -- how many connections its dialer made before
  pub number : ℕ
  -- the bytes that it took, those that it gave, and all that it gives, each where it is told
  pub sent : Option (List ℕ)
  pub given : Option (List ℕ)
  pub whole : Option (List ℕ)
  -- how often it failed, and how often it had to wait
  pub faults : ℕ
  pub waits : ℕ

-- what no call of a connection changes; its counts don't fall
pub record IsSameLink (old new : LinkFacts) : Type 0 where
  pub target : new.target ≡ old.target
  pub number : new.number ≡ old.number
  pub told : is_some new.given ≡ is_some old.given
  pub whole : IfSome old.whole (λ w. new.whole ≡ Some w)
  pub faults : old.faults ≤ new.faults
  pub waits : old.waits ≤ new.waits

-- no byte went over a connection
pub record IsIdle (old new : LinkFacts) : Type 0 where
  pub sent : new.sent ≡ old.sent
  pub given : new.given ≡ old.given

-- the first n bytes of a piece were taken
pub record Takes (old new : LinkFacts) (piece : List ℕ) (n : ℕ) : Type 0 where
  pub some : 1 ≤ n
  pub within : n ≤ length piece
  pub sent : new.sent ≡ append_known old.sent (take n piece)
  pub given : new.given ≡ old.given

-- n bytes were put at the front of a buffer
pub record Gets (old new : LinkFacts) (buffer : List ℕ) (n : ℕ) : Type 0 where
  pub some : 1 ≤ n
  pub within : n ≤ length buffer
  pub given : new.given ≡ append_known old.given (take n buffer)
  pub sent : new.sent ≡ old.sent

-- what an answer to sending a piece says
abbrev pub Sends : LinkFacts → LinkFacts → List ℕ → Sent → Type 0
Sends old new piece (sending.Took n) = Takes old new piece n
Sends old new piece sending.NotYet = IsIdle old new × Rose old.waits new.waits
Sends old new piece sending.Failed = IsIdle old new × Rose old.faults new.faults

-- the bytes that were given are all that there are
abbrev pub IsAllGiven : LinkFacts → Type 0
IsAllGiven link = IfSome link.given (λ g. link.whole ≡ Some g)

-- what an answer to a step into a buffer says
abbrev pub Steps : LinkFacts → LinkFacts → List ℕ → Step → Type 0
Steps old new buffer (stepping.Got n) = Gets old new buffer n
Steps old new buffer stepping.End = IsIdle old new × IsAllGiven new
Steps old new buffer stepping.NotYet = IsIdle old new × Rose old.waits new.waits
Steps old new buffer stepping.Failed = IsIdle old new × Rose old.faults new.faults

-- a connection to a target, with a number, over which nothing went
pub record IsFresh (link : LinkFacts) (asked : Target) (before : ℕ) : Type 0 where
  pub target : link.target ≡ asked
  pub number : link.number ≡ before
  pub sent : IfSome link.sent (λ s. s ≡ [])
  pub given : IfSome link.given (λ g. g ≡ [])
  pub faults : link.faults ≡ 0
  pub waits : link.waits ≡ 0

-- what was given is a front of all that there is, where both are told
abbrev pub IsFront : Option (List ℕ) → Option (List ℕ) → Type 0
IsFront given whole = IfSome given (λ g. IfSome whole (λ w. (rest : List ℕ) × (w ≡ g ++ rest)))

-- a connection tells its bytes, and all of them where the replies have its address
pub record TellsReply (world : Replies) (link : LinkFacts) : Type 0 where
  pub given : is_some link.given ≡ true
  pub whole : (reply : List ℕ) → reply_at link.target.url world ≡ Some reply → link.whole ≡ Some reply
