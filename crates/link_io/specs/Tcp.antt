-- A connection of the network, which tells nothing of what goes over it.
use Rattle.std.specs.Prelude.{◌≡◌, List, Some, None}
use Rattle.link_io.specs.declared.target.Target.{Target}
use Rattle.link_io.specs.declared.tcp.TcpConn.{TcpConn}
use Rattle.link_io.specs.declared.tcp.TcpDial.{TcpDial}
use Rattle.link_io.specs.Origin.{Replies, Origin, plain}
use Rattle.link_io.specs.Conn.{LinkFacts, TellsReply}

-- what contracts see of it
abbrev pub tcp_facts : {R : Type 0} → TcpConn R → LinkFacts
tcp_facts c = record { target = c.target; number = c.number; sent = None; given = None; whole = None; faults = c.faults; waits = c.waits }

-- it comes from an origin with neither layers nor a world
abbrev pub IsFromNet : {R : Type 0} → TcpConn R → Origin → Type 0
IsFromNet c o = o ≡ plain None

-- so it comes from no world
pub tcp-tells : {R : Type 0} (c : TcpConn R) (w : Replies) → IsFromNet c (plain (Some w)) → TellsReply w (tcp_facts c)
tcp-tells c w from = let none : Some w ≡ None = λ i. (from i).world in absurd (cc)

-- the targets that were dialed
abbrev pub tcp_dialed : {R : Type 0} → TcpDial R → List Target
tcp_dialed d = d.dialed.items
