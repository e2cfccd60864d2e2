use Rattle.std.proofs.Common.{◌≡◌, ◌∙◌, sym, ap, subst, take, refl}
use Rattle.std.proofs.lemmas.List.{take_more}
use Rattle.std.proofs.lemmas.Option.{slice_get-get_or}
use Rattle.gateway_core.specs.declared.world.World.{World}
use Rattle.gateway_core.specs.Schedules.{Ran}
use Rattle.gateway_core.proofs.ScheduleLemmas.{ran_push, stop_at}
use Rattle.gateway_core.proofs.scheduling.run_events.Goals as goal

pub loop-i-preserved : goal.loop-i-preserved
loop-i-preserved g c =
    let e = c.if-not-apply.ensures in
    record {
      sound = e.keeps.sound;
      ran = subst (λ z. Ran g.D.Link.Conn.facts g.D.Link.Conn.from z c.args.world c.apply.new.world) (sym (take_more c.args.events.now c.loop-i.i _ c.loop-i-test.true))
          (ran_push g.D.Link.Conn.facts g.D.Link.Conn.from (take c.loop-i.i c.args.events.now) _ c.args.world c.loop-i.world c.apply.new.world c.loop-i.invariant.ran (sym e.enabled) (e.done refl));
      fits = λ rs f. e.keeps.fits rs (c.loop-i.invariant.fits rs f);
    }

pub returns-then-not-apply-clause-err : goal.returns-then-not-apply-clause-err
returns-then-not-apply-clause-err g c =
    let e = c.if-not-apply.ensures in
    let v : World _ _ _ = c.apply.new.world in (
      stop_at g.D.Link.Conn.facts g.D.Link.Conn.from c.args.events.now c.loop-i.i c.args.world c.loop-i.world v _ (slice_get-get_or c.args.events.now c.loop-i.i _ c.loop-i-test.true) c.loop-i.invariant.ran e.enabled (e.refused refl),
      e.keeps.sound,
      λ rs f. e.keeps.fits rs (c.loop-i.invariant.fits rs f),
    )
