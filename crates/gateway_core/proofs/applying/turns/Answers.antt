use Rattle.std.proofs.Common.{◌≡◌, ◌∙◌, ap, sym, slice_get, refl}
use Rattle.gateway_core.specs.declared.world.World.{World}
use Rattle.gateway_core.specs.declared.world.Place.TheVariants.{Running, Cancelled}
use Rattle.gateway_core.specs.Places.{is_running}
use Rattle.gateway_core.proofs.SoundLemmas.{keeps_turn, runs_is, runs_live, put_again, still_there}
use Rattle.gateway_core.proofs.applying.turns.Goals as goal

pub unreachable-requires : goal.unreachable-requires
unreachable-requires g c = let w = runs_is c.take_place.result (ap is_running (sym c.take_place.ensures.value) ∙ ap (λ z. is_running (slice_get z c.args.i)) (sym c.deref.ensures.value) ∙ sym c.runs_at.ensures ∙ c.if-not-runs_at.false) in c.in_default.not-Running w.0 w.1

pub turn-place-requires-after_bounds : goal.turn-place-requires-after_bounds
turn-place-requires-after_bounds g c κs within = runs_live g.D.Link.Conn.facts g.D.Link.Conn.from c.args.world.now c.args.i c.in-Running.query c.requires c.in-Running.ensures.value

pub set_place-requires-after_bounds : goal.set_place-requires-after_bounds
set_place-requires-after_bounds g c κs within = still_there c.args.world.now.places.items c.take_place.new.places.items c.args.i (Running c.in-Running.query) Cancelled c.in-Running.ensures.value c.take_place.ensures.items

pub returns-clause-keeps : goal.returns-clause-keeps
returns-clause-keeps g c =
    let v : World _ _ _ = record { table = c.turn-place.new.table; door = c.args.world.now.door; channels = c.args.world.now.channels; subdirs = c.args.world.now.subdirs; places = c.set_place.new.places } in
    keeps_turn g.D.Link.Conn.facts g.D.Link.Conn.from c.args.world.now v c.args.i c.in-Running.query c.turn-place.result c.requires c.in-Running.ensures.value c.turn-place.ensures refl refl refl
    (put_again c.args.world.now.places.items c.take_place.new.places.items c.set_place.new.places.items c.args.i Cancelled c.turn-place.result c.take_place.ensures.items c.set_place.ensures)

pub returns-clause-done : goal.returns-clause-done
returns-clause-done g c = λ _. record {
  query = c.in-Running.query;
  place = c.turn-place.result;
  was = c.in-Running.ensures.value;
  is = put_again c.args.world.now.places.items c.take_place.new.places.items c.set_place.new.places.items c.args.i Cancelled c.turn-place.result c.take_place.ensures.items c.set_place.ensures;
  turns = c.turn-place.ensures;
  door = refl;
}
