use Rattle.std.proofs.Common.{subst}
use Rattle.link_io.specs.declared.conn.Step.{Step}
use Rattle.link_io.specs.Parcel.{StepsBehind}
use Rattle.link_io.proofs.ParcelLemmas.{got-is-parcel}
use Rattle.link_io.proofs.parcel.Parcel.step.Goals as goal

pub invariant_of-self-in-Got : goal.invariant_of-self-in-Got
invariant_of-self-in-Got g c =
    got-is-parcel g.L.Conn.facts (record { target = c.self.inside.target; link = c.self.inside.link; sent = c.self.inside.sent; received = c.self.inside.received; ended = c.self.inside.ended; broken = c.self.inside.broken }) c.step.new.link c.step.new.self c.args.room _ c.self.invariant
    (subst (λ (s : Step). StepsBehind c.args.room (g.L.Conn.facts c.self.inside.link) (g.L.Conn.facts c.step.new.link) c.self.inside.received c.step.new.self s) c.in-Got.is c.in_ok-answer.ensures.ok)
    (g.met.L.Conn.front c.step.new.link)
