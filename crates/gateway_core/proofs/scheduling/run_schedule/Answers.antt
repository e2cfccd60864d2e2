use Rattle.std.proofs.Common.{◌≡◌, ◌∙◌, ap, List}
use Rattle.closure_request.specs.Request.{Asking}
use Rattle.gateway_core.specs.declared.world.World.{World}
use Rattle.gateway_core.specs.Schedules.{Begins, IsRefused, IsStopped, Ran, Runs}
use Rattle.gateway_core.specs.Sound.{Fits, IsSound, first_channels, first_subdirs}
use Rattle.gateway_core.proofs.StartLemmas.{if_err, if_ok, refused_from, runs_from, sound_new}
use Rattle.gateway_core.proofs.scheduling.run_schedule.Goals as goal

pub run_events-requires-after_bounds : goal.run_events-requires-after_bounds
run_events-requires-after_bounds g c κs within =
    let w : World _ _ _ = record { table = c.new-table.result.0; door = c.new-table.result.1; channels = c.in-Ok.channels; subdirs = c.in-Ok-subdirs_of.subdirs; places = c.in-Ok-places_of.places } in
    let b : Begins c.args.keep (g.D.Dial.dialed c.args.dial) (g.D.Dial.origin c.args.dial) c.args.requests.items w = record {
      table = c.new-table.ensures.table;
      door = c.new-table.ensures.door;
      places = c.in-Ok-places_of.ensures;
      channels = c.in-Ok.ensures ∙ ap first_channels c.deref.ensures.value;
      subdirs = c.in-Ok-subdirs_of.ensures ∙ ap first_subdirs c.deref-2.ensures.value;
    } in
    sound_new g.D.Link.Conn.facts g.D.Link.Conn.from c.args.keep (g.D.Dial.dialed c.args.dial) (g.D.Dial.origin c.args.dial) c.args.requests.items w c.requires.formed b

pub returns-clause-ok : goal.returns-clause-ok
returns-clause-ok g c =
    let w : World _ _ _ = record { table = c.new-table.result.0; door = c.new-table.result.1; channels = c.in-Ok.channels; subdirs = c.in-Ok-subdirs_of.subdirs; places = c.in-Ok-places_of.places } in
    let b : Begins c.args.keep (g.D.Dial.dialed c.args.dial) (g.D.Dial.origin c.args.dial) c.args.requests.items w = record {
      table = c.new-table.ensures.table;
      door = c.new-table.ensures.door;
      places = c.in-Ok-places_of.ensures;
      channels = c.in-Ok.ensures ∙ ap first_channels c.deref.ensures.value;
      subdirs = c.in-Ok-subdirs_of.ensures ∙ ap first_subdirs c.deref-2.ensures.value;
    } in
    if_ok c.run_events.result (λ v. IsSound g.D.Link.Conn.facts g.D.Link.Conn.from v × Ran g.D.Link.Conn.facts g.D.Link.Conn.from c.args.events.now w v × ((xs : List Asking) → Fits xs w → Fits xs v)) (Runs g.D.Link.Conn.facts g.D.Link.Conn.from c.args.keep (g.D.Dial.dialed c.args.dial) (g.D.Dial.origin c.args.dial) c.args.requests.items c.args.events.now)
    (λ v h. runs_from g.D.Link.Conn.facts g.D.Link.Conn.from c.args.keep (g.D.Dial.dialed c.args.dial) (g.D.Dial.origin c.args.dial) c.args.requests.items c.args.events.now w v b h) c.run_events.ensures.ok

pub returns-clause-err : goal.returns-clause-err
returns-clause-err g c =
    let w : World _ _ _ = record { table = c.new-table.result.0; door = c.new-table.result.1; channels = c.in-Ok.channels; subdirs = c.in-Ok-subdirs_of.subdirs; places = c.in-Ok-places_of.places } in
    let b : Begins c.args.keep (g.D.Dial.dialed c.args.dial) (g.D.Dial.origin c.args.dial) c.args.requests.items w = record {
      table = c.new-table.ensures.table;
      door = c.new-table.ensures.door;
      places = c.in-Ok-places_of.ensures;
      channels = c.in-Ok.ensures ∙ ap first_channels c.deref.ensures.value;
      subdirs = c.in-Ok-subdirs_of.ensures ∙ ap first_subdirs c.deref-2.ensures.value;
    } in
    if_err c.run_events.result (IsStopped g.D.Link.Conn.facts g.D.Link.Conn.from w c.args.events.now) (IsRefused g.D.Link.Conn.facts g.D.Link.Conn.from c.args.dial g.D.Dial.dialed g.D.Dial.origin c.args.keep c.args.requests.items c.args.events.now)
    (λ r h. refused_from g.D.Link.Conn.facts g.D.Link.Conn.from c.args.dial g.D.Dial.dialed g.D.Dial.origin c.args.keep c.args.requests.items c.args.events.now w r b h) c.run_events.ensures.err
