-- The counts of the acceptor of the network.
use Rattle.std.specs.Prelude.{ℕ}
use Rattle.shard_listener.specs.declared.listener.TcpAccept.{TcpAccept}

module _ {R : Type 0} where
  -- how many connections it gave
  abbrev pub accepted_count : TcpAccept R → ℕ
  accepted_count a = a.accepted

  -- how many of its calls failed
  abbrev pub failed_count : TcpAccept R → ℕ
  failed_count a = a.faults
