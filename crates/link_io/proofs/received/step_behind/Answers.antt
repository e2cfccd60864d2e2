use Rattle.std.proofs.Common.{◌≡◌, ◌+◌, ℕ, length, take, drop, rules, subst, ap, ◌∙◌, arith, vec_len}
use Rattle.std.proofs.lemmas.List.{take_at}
use Rattle.link_io.specs.Conn.{Steps}
use Rattle.link_io.specs.Parcel.{count_in}
use Rattle.link_io.proofs.RoomLemmas.{steps-behind}
use Rattle.link_io.proofs.received.step_behind.Goals as goal

pub returns-clause-ok : goal.returns-clause-ok
returns-clause-ok g c =
    let old = g.L.Conn.facts c.args.link.now in
    let new = g.L.Conn.facts c.step_at-answer.new.link in
    let before = c.args.bytes.now.items in
    let whole = c.step_at-answer.new.buffer in
    let front : take (length c.args.bytes.now.items) c.step_at-answer.new.buffer ≡ c.args.bytes.now.items = search rules in
    let size : length c.step_at-answer.new.buffer ≡ length c.args.bytes.now.items + c.args.room = search rules in
    let at : c.len-before.result ≡ length c.args.bytes.now.items = search rules in
    let long : length c.step_at-answer.new.buffer ≡ vec_len c.add_room.new.bytes = search rules in
    let count : c.len-before.result + c.count_in.result ≡ length c.args.bytes.now.items + count_in c.step_at-answer.result = omega (arith, at, c.count_in.ensures) in
    let now : c.truncate.new.self.items ≡ take (length c.args.bytes.now.items + count_in c.step_at-answer.result) c.step_at-answer.new.buffer =
    c.truncate.ensures.items ∙ ap (take (c.len-before.result + c.count_in.result)) (take_at c.step_at-answer.new.buffer _ _ long) ∙ ap (λ (n : ℕ). take n c.step_at-answer.new.buffer) count in
    steps-behind old new before whole c.truncate.new.self.items c.args.room front size c.step_at-answer.result c.step_at-answer.ensures.same
    (subst (λ (n : ℕ). Steps (g.L.Conn.facts c.args.link.now) (g.L.Conn.facts c.step_at-answer.new.link) (drop n c.step_at-answer.new.buffer) c.step_at-answer.result) at c.step_at-answer.ensures.steps)
    now
