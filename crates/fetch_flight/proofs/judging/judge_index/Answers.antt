use Rattle.std.proofs.Common.{◌≡◌, ap, sym, ◌∙◌, List, ℕ, drop, Err, Result}
use Rattle.link_io.specs.declared.target.Target.{Target}
use Rattle.link_io.specs.declared.address.UrlFault.{UrlFault}
use Rattle.http_head.specs.Reply.{framed_bytes}
use Rattle.channel_url.specs.Addresses.{shards_base}
use Rattle.fetch_flight.proofs.FlightLemmas.{bad_index}
use Rattle.fetch_flight.proofs.judging.judge_index.Goals as goal

pub wreck-requires : goal.wreck-requires
wreck-requires g c =
    let body = c.body_in-body.ensures ∙ ap (λ (l : List ℕ). framed_bytes c.args.frame (drop c.args.len l)) c.received.ensures.value in
    let said : ◌≡◌ {A = Result (List ℕ) UrlFault} (shards_base c.target.result.now.url c.shards_base_url.result.now) (Err c.in-Err-Fault-shards_base.fault) =
    rw c.in-Err-Fault-shards_base.field-0-is at c.in-Err-Fault-shards_base.ensures in
    bad_index c.args.parcel c.args.len c.args.frame c.body_in-body.result.now _ c.requires.whole c.requires.key c.requires.decided body (
      c.in-Ok.index,
      c.in-Ok.ensures.found,
      ap (λ (t : Target). shards_base t.url c.in-Ok.index.info.shards_base_url) (sym c.target.ensures.value)
          ∙ ap (λ (u : List ℕ). shards_base c.target.result.now.url u) (sym c.shards_base_url.ensures) ∙ said,
    )

pub wreck-requires-in-Err-Fault : goal.wreck-requires-in-Err-Fault
wreck-requires-in-Err-Fault g c =
    let body = c.body_in-body.ensures ∙ ap (λ (l : List ℕ). framed_bytes c.args.frame (drop c.args.len l)) c.received.ensures.value in
    rw c.in-Err-Fault.field-0-is (bad_index c.args.parcel c.args.len c.args.frame c.body_in-body.result.now _ c.requires.whole c.requires.key c.requires.decided body
    (rw c.in-Err-Fault.field-0-is at c.in-Err-Fault.ensures.fault))
