use Rattle.std.proofs.Common.{◌≡◌, List, take}
use Rattle.closure_request.specs.Request.{Asking}
use Rattle.gateway_core.specs.Schedules.{Ran}
use Rattle.gateway_core.specs.Sound.{Fits, IsSound}
use Rattle.gateway_core.proofs.scheduling.run_events.Given as goal

abbrev pub invariant-loop-i : goal.invariant-loop-i
invariant-loop-i g l = record {
  sound : IsSound g.D.Link.Conn.facts g.D.Link.Conn.from l.world;
  ran : Ran g.D.Link.Conn.facts g.D.Link.Conn.from (take l.i l.events) l.initial.world l.world;
  fits : (rs : List Asking) → Fits rs l.initial.world → Fits rs l.world;
}
