use Rattle.std.proofs.Common.{◌≡◌, false}
use Rattle.link_io.specs.Target.{IsPlain}
use Rattle.http_reply.specs.Going.{IsUndecided}
use Rattle.fetch_flight.proofs.tests.fly.Given as goal

-- it can go on, and its target is plain
abbrev pub invariant-loop : goal.invariant-loop
invariant-loop l = (l.parcel.broken ≡ false) × IsUndecided l.parcel × IsPlain l.parcel.target
