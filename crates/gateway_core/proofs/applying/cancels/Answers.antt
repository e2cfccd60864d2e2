use Rattle.std.proofs.Common.{◌≡◌, ◌∙◌, ap, sym, slice_get, refl}
use Rattle.flight_table.specs.Doors.{Gate}
use Rattle.gateway_core.specs.declared.world.World.{World}
use Rattle.gateway_core.proofs.SoundLemmas.{idle_runs, keeps_cancel, not_so, runs_live}
use Rattle.query_future.specs.Queries.{is_in_hand}
use Rattle.gateway_core.specs.Places.{is_idle}
use Rattle.gateway_core.proofs.applying.cancels.Goals as goal

pub unreachable-requires : goal.unreachable-requires
unreachable-requires g c = let w = idle_runs c.take_place.result (ap is_idle (sym c.take_place.ensures.value) ∙ ap (λ z. is_idle (slice_get z c.args.i)) (sym c.deref.ensures.value) ∙ sym c.is_idle_at.ensures ∙ c.if-not-is_idle_at.false) in c.in_default.not-Running w.0 w.1

pub cancel-requires-clause-live : goal.cancel-requires-clause-live
cancel-requires-clause-live g c = λ _ _. runs_live g.D.Link.Conn.facts g.D.Link.Conn.from c.args.world.now c.args.i c.in-Running.query c.requires c.in-Running.ensures.value

pub cancel-requires-clause-idle : goal.cancel-requires-clause-idle
cancel-requires-clause-idle g c = λ _ _. not_so (is_in_hand c.in-Running.query.hand) (ap is_idle (sym c.in-Running.ensures.value) ∙ ap (λ z. is_idle (slice_get z c.args.i)) (sym c.deref.ensures.value) ∙ sym c.is_idle_at.ensures ∙ c.if-not-is_idle_at.false)

pub returns-clause-keeps : goal.returns-clause-keeps
returns-clause-keeps g c =
    let v : World _ _ _ = record { table = c.cancel.new.table; door = c.cancel.new.door; channels = c.args.world.now.channels; subdirs = c.args.world.now.subdirs; places = c.take_place.new.places } in
    keeps_cancel g.D.Link.Conn.facts g.D.Link.Conn.from c.args.world.now v c.args.i c.in-Running.query c.requires c.in-Running.ensures.value c.cancel.ensures.leaves
    (ap (λ (z : Gate). z.weight) c.cancel.ensures.door.0) c.cancel.ensures.door.2 refl refl c.take_place.ensures.items
