use Rattle.std.proofs.Common.{◌≡◌, ◌+◌, ◌-◌, take, drop, ap, ◌∙◌, arith, ℕ, List}
use Rattle.link_io.proofs.PieceLemmas.{reads-copied}
use Rattle.link_io.proofs.memory.MemSourceSource.read.Goals as goal

pub returns-clause-ok : goal.returns-clause-ok
returns-clause-ok c =
    let bytes = c.self.inside.bytes.items in
    let at = c.self.inside.at in
    let count = c.min-count.result in
    let size : at + count - at ≡ count = omega arith in
    let copied : c.copy_from_slice.new.self ≡ take count (drop at bytes) =
    c.copy_from_slice.ensures.after ∙ ap (λ (n : ℕ). take n (drop at c.deref-2.result.now)) size ∙ ap (λ (l : List ℕ). take count (drop at l)) c.deref-2.ensures.value in
    let was : drop at bytes ≡ c.args.self.now.left = ap (λ v. v.left) c.self.view_is in
    reads-copied bytes _ _ _ at count was (omega arith) copied (omega arith)
