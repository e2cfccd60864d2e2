-- Events one after another.
use Rattle.std.specs.Prelude.{◌≡◌, ◌+◌, ◌<◌, ℕ, zero, suc, Bool, true, false, List, [], ◌∷◌, ◌++◌, map, length, take, slice_get, Option, Some, None, refl}
use Rattle.std.proofs.Common.{sym, ◌∙◌, ap, subst, arith}
use Rattle.std.proofs.lemmas.Option.{same_Some, none-some}
use Rattle.link_io.specs.Conn.{LinkFacts}
use Rattle.link_io.specs.Origin.{Origin, plain}
use Rattle.link_io.specs.declared.target.Target.{Target}
use Rattle.closure_request.specs.Request.{Asking}
use Rattle.flight_table.specs.Doors.{Gate, TellsDoor, first_door}
use Rattle.flight_table.specs.Facts.{Facts}
use Rattle.query_needs.specs.Targets.{IsFormed}
use Rattle.gateway_core.specs.declared.world.Event.{Event}
use Rattle.gateway_core.specs.declared.world.Event.TheVariants.{Opened, Turn, Cancel, Refresh}
use Rattle.gateway_core.specs.declared.world.Place.{Place}
use Rattle.gateway_core.specs.declared.world.Place.TheVariants.{Unopened, Running, Done, Cancelled}
use Rattle.gateway_core.specs.declared.world.World.{World}
use Rattle.gateway_core.specs.Events.{Does, is_enabled}
use Rattle.gateway_core.specs.Places.{IsFor, IsWell, facts_at}
use Rattle.gateway_core.specs.Schedules.{Begins, Ran, Stopped}
use Rattle.gateway_core.specs.Sound.{AreFormed, AreSound, Fits, IsSound, IsWholeDoor, first_channels, first_subdirs}

module _ {N D L : Type 0} (facts : L → LinkFacts) (from : L → Origin → Type 0) where
  pub ran_push : (es : List Event) (e : Event) (w u v : World N D L) → Ran facts from es w u → is_enabled u e ≡ true → Does facts from e u v → Ran facts from (es ++ e ∷ []) w v
  ran_push [] e w u v r n d =
      (v, subst (λ (z : World N D L). is_enabled z e ≡ true) r n, subst (λ (z : World N D L). Does facts from e z v) r d, refl)
  ran_push (x ∷ es) e w u v r n d = (r.0, r.1, r.2, ran_push es e r.0 u v r.3 n d)

  pub stop_at : (es : List Event) (n : ℕ) (w u v : World N D L) (e : Event) → slice_get es n ≡ Some e → Ran facts from (take n es) w u → false ≡ is_enabled u e → v ≡ u → Stopped facts from es w n v
  stop_at es n w u v e i r f s = record {
    event = e;
    at = i;
    ran = subst (λ (z : World N D L). Ran facts from (take n es) w z) (sym s) r;
    refused = ap (λ (z : World N D L). is_enabled z e) s ∙ sym f;
  }
