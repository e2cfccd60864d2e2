use Rattle.std.proofs.Common.{◌≡◌, ◌∙◌, ap, sym, slice_get, refl}
use Rattle.gateway_core.specs.declared.world.World.{World}
use Rattle.gateway_core.specs.declared.world.Place.TheVariants.{Unopened, Cancelled}
use Rattle.gateway_core.specs.Places.{is_unopened}
use Rattle.gateway_core.proofs.SoundLemmas.{keeps_open, put_again, still_there, waits_formed, waits_is}
use Rattle.gateway_core.proofs.applying.opens.Goals as goal

pub unreachable-requires : goal.unreachable-requires
unreachable-requires g c = let w = waits_is c.take_place.result (ap is_unopened (sym c.take_place.ensures.value) ∙ ap (λ z. is_unopened (slice_get z c.args.i)) (sym c.deref.ensures.value) ∙ sym c.waits_at.ensures ∙ c.if-not-waits_at.false) in c.in_default.not-Unopened w.0 w.1

pub open-place-requires-after_bounds : goal.open-place-requires-after_bounds
open-place-requires-after_bounds g c κs within = waits_formed g.D.Link.Conn.facts g.D.Link.Conn.from c.args.world.now c.args.i c.in-Unopened.request c.requires c.in-Unopened.ensures.value

pub set_place-requires-after_bounds : goal.set_place-requires-after_bounds
set_place-requires-after_bounds g c κs within = still_there c.args.world.now.places.items c.take_place.new.places.items c.args.i (Unopened c.in-Unopened.request) Cancelled c.in-Unopened.ensures.value c.take_place.ensures.items

pub returns-clause-keeps : goal.returns-clause-keeps
returns-clause-keeps g c =
    let v : World _ _ _ = record { table = c.open-place.new.table; door = c.open-place.new.door; channels = c.args.world.now.channels; subdirs = c.args.world.now.subdirs; places = c.set_place.new.places } in
    keeps_open g.D.Link.Conn.facts g.D.Link.Conn.from c.args.world.now v c.args.i c.in-Unopened.request c.open-place.result c.requires c.in-Unopened.ensures.value c.open-place.ensures refl refl
    (put_again c.args.world.now.places.items c.take_place.new.places.items c.set_place.new.places.items c.args.i Cancelled c.open-place.result c.take_place.ensures.items c.set_place.ensures)

pub returns-clause-done : goal.returns-clause-done
returns-clause-done g c = λ _. record {
  request = c.in-Unopened.request;
  place = c.open-place.result;
  was = c.in-Unopened.ensures.value;
  is = put_again c.args.world.now.places.items c.take_place.new.places.items c.set_place.new.places.items c.args.i Cancelled c.open-place.result c.take_place.ensures.items c.set_place.ensures;
  opens = c.open-place.ensures;
}
