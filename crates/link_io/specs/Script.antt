-- A world in memory: its connections, and the script by which they fail and wait.
use Rattle.std.specs.Prelude.{◌≡◌, ℕ, ◌+◌, ◌-◌, ◌^◌, ◌==◌, min, List, [], ◌∷◌, ◌++◌, length, codes, Option, Some, None, IsSomeAnd, unwrap_or, if◌then◌else◌, refl}
use Rattle.link_io.specs.declared.target.Target.{Target}
use Rattle.link_io.specs.declared.conn.Sent.{Sent}
use Rattle.link_io.specs.declared.conn.Step.{Step}
use Rattle.link_io.specs.declared.conn.Sent.TheVariants as sending
use Rattle.link_io.specs.declared.conn.Step.TheVariants as stepping
use Rattle.link_io.specs.declared.script.Trick.{Trick}
use Rattle.link_io.specs.declared.script.Trick.TheVariants as trick
use Rattle.link_io.specs.declared.script.ScriptLine.{ScriptLine}
use Rattle.gateway_words.specs.Ascii.{crlf}
use Rattle.link_io.specs.Origin.{Replies, Origin, reply_at, plain}
use Rattle.link_io.specs.Conn.{LinkFacts, IsFront, TellsReply}

-- the reply for an address that a world lacks
unfoldable pub not_found : List ℕ
not_found = codes "HTTP/1.1 404 Not Found" ++ crlf ++ codes "Content-Length: 0" ++ crlf ++ crlf

-- the reply of a world for an address
abbrev pub reply_for : List ℕ → Replies → List ℕ
reply_for url world = unwrap_or (reply_at url world) not_found

-- a connection in memory
pub record ScriptLink : Type 0 where
  pub target : Target
  pub number : ℕ
  -- the bytes that it gave, and those that are left
  pub given : List ℕ
  pub left : List ℕ
  -- the most bytes of one step
  pub piece : ℕ
  -- the lines of its script, how many calls there were, how often it failed and had to wait
  pub script : List ScriptLine
  pub calls : ℕ
  pub faults : ℕ
  pub waits : ℕ

-- what contracts see of it
abbrev pub script_facts : ScriptLink → LinkFacts
script_facts l = record { target = l.target; number = l.number; sent = None; given = Some l.given; whole = Some (l.given ++ l.left); faults = l.faults; waits = l.waits }

-- it comes from a world without layers that has its reply
abbrev pub IsFromWorld : ScriptLink → Origin → Type 0
IsFromWorld l o = (o.layers ≡ []) × IsSomeAnd o.world (λ w. l.given ++ l.left ≡ reply_for l.target.url w)

-- what it gave is a front of what it gives
pub script-front : (l : ScriptLink) → IsFront (script_facts l).given (script_facts l).whole
script-front l = (l.left, refl)

-- the reply of a world that has the address
reply_found : (url reply : List ℕ) (w : Replies) → reply_at url w ≡ Some reply → reply_for url w ≡ reply
reply_found url reply w found = λ i. unwrap_or (found i) not_found

-- a connection that comes from a world tells its reply
pub script-tells : (l : ScriptLink) (w : Replies) → IsFromWorld l (plain (Some w)) → TellsReply w (script_facts l)
script-tells l w from = record { given = refl; whole = λ reply found. λ i. Some (tells reply found i) }
  where
    tells : (reply : List ℕ) → reply_at l.target.url w ≡ Some reply → l.given ++ l.left ≡ reply
    tells reply found = rw (← reply_found l.target.url reply w found) from.1

-- the trick that a script has for a call of a connection
abbrev pub trick_at : ℕ → ℕ → List ScriptLine → Option Trick
trick_at number call [] = None
trick_at number call (x ∷ xs) = if x.dial == number then (if x.call == call then Some x.trick else trick_at number call xs) else trick_at number call xs

-- what a script makes of sending n bytes
abbrev pub sent_by : Option Trick → ℕ → Sent
sent_by (Some trick.Wait) n = sending.NotYet
sent_by (Some trick.Fail) n = sending.Failed
sent_by None n = sending.Took n

-- what a script makes of a step that has n bytes to give
abbrev pub step_by : Option Trick → ℕ → Step
step_by (Some trick.Wait) n = stepping.NotYet
step_by (Some trick.Fail) n = stepping.Failed
step_by None n = if n == 0 then stepping.End else stepping.Got n

-- the trick for the next call of a connection
abbrev pub next_trick : ScriptLink → Option Trick
next_trick l = trick_at l.number l.calls l.script

-- how many bytes the next step gives into so much room
abbrev pub next_count : ScriptLink → ℕ → ℕ
next_count l room = min (min (length l.left) room) l.piece

-- one call more was made, and the script is the same
pub record IsCalled (old new : ScriptLink) : Type 0 where
  pub calls : new.calls ≡ min (old.calls + 1) (2 ^ 64 - 1)
  pub script : new.script ≡ old.script

-- a dialer in memory
pub record ScriptDialer : Type 0 where
  pub world : Replies
  pub piece : ℕ
  pub script : List ScriptLine
  pub dialed : List Target

-- a dialer that dialed nothing yet
abbrev pub dialer_of : Replies → ℕ → List ScriptLine → ScriptDialer
dialer_of world piece script = record { world = world; piece = piece; script = script; dialed = [] }
