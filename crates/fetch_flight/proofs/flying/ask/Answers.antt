use Rattle.std.proofs.Common.{◌≡◌, rules, subst, arith, length, take, drop, ◌-◌, List, ℕ}
use Rattle.std.proofs.lemmas.List.{take_all, length-drop}
use Rattle.link_io.specs.Conn.{Sends}
use Rattle.http_reply.specs.Request.{request_bytes}
use Rattle.fetch_flight.specs.Advance.{Asks}
use Rattle.fetch_flight.proofs.AdvanceLemmas.{of-sent}
use Rattle.fetch_flight.proofs.flying.ask.Goals as goal

pub returns-clause-says : goal.returns-clause-says
returns-clause-says g c =
    let text : c.deref.result.now ≡ request_bytes c.args.parcel.now.target.url = search rules in
    let bytes : List ℕ = c.deref.result.now in
    let at : ℕ = c.sent-sent.result in
    let all : take (length bytes - at) (drop at bytes) ≡ drop at bytes = take_all (length bytes - at) (drop at bytes) (omega (arith, length-drop at bytes)) in
    let sends : Sends (g.L.Conn.facts c.args.parcel.now.link) (g.L.Conn.facts c.send.new.self.link) (drop c.args.parcel.now.sent (request_bytes c.args.parcel.now.target.url)) c.send.result =
    subst (λ (xs : List ℕ). Sends (g.L.Conn.facts c.args.parcel.now.link) (g.L.Conn.facts c.send.new.self.link) (drop c.args.parcel.now.sent xs) c.send.result) text
    (subst (λ (n : ℕ). Sends (g.L.Conn.facts c.args.parcel.now.link) (g.L.Conn.facts c.send.new.self.link) (drop n c.deref.result.now) c.send.result) c.sent-sent.ensures
    (subst (λ (piece : List ℕ). Sends (g.L.Conn.facts c.args.parcel.now.link) (g.L.Conn.facts c.send.new.self.link) piece c.send.result) all c.send.ensures.sends)) in
    let asks : Asks g.L.Conn.facts c.args.parcel.now c.send.new.self c.send.result =
    record { left = c.requires.left; same = c.send.ensures.same; sends = sends; after = c.send.ensures.after } in
    rw c.of_sent.ensures (of-sent g.L.Conn.facts c.args.parcel.now c.send.new.self c.send.result c.requires.undecided asks)
