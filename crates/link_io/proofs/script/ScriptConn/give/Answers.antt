use Rattle.std.proofs.Common.{◌≡◌, ◌+◌, ◌-◌, ◌++◌, take, drop, length, ap, refl, ◌∙◌, arith, ℕ, List, Some, length-append}
use Rattle.std.proofs.lemmas.List.{length-take-le, length-drop}
use Rattle.link_io.proofs.GivingLemmas.{gives-copied}
use Rattle.link_io.proofs.script.ScriptConn.give.Goals as goal

pub returns-clause-steps : goal.returns-clause-steps
returns-clause-steps c =
    let all = c.self.inside.reply.items in
    let at = c.self.inside.at in
    let count = c.min-count.result in
    let piece = c.copy_from_slice.new.self in
    let rest = drop count c.args.buf.now in
    let size : at + count - at ≡ count = omega arith in
    let copied : piece ≡ take count (drop at all) =
    c.copy_from_slice.ensures.after ∙ ap (λ (n : ℕ). take n (drop at c.deref.result.now)) size ∙ ap (λ (l : List ℕ). take count (drop at l)) c.deref.ensures.value in
    let was : take at all ≡ c.args.self.now.given = ap (λ v. v.given) c.self.view_is in
    let long : length piece ≡ count = ap length copied ∙ length-take-le count (drop at all) (omega (arith, length-drop at all)) in
    record {
      some = omega arith;
      within = omega (arith, length-append piece rest, long);
      given = ap Some (gives-copied all piece rest at count (omega arith) copied ∙ ap (λ (l : List ℕ). l ++ take count (piece ++ rest)) was);
      sent = refl;
    }
