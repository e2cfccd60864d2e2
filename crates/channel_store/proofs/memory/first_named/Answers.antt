use Rattle.std.proofs.Common.{◌≡◌, true, false, cond, map, drop, Some, ◌+◌, ap, sym, ◌∙◌}
use Rattle.std.specs.Ordering.{nat_cmp}
use Rattle.std.specs.Cmp.Lexicographic.{slice_cmp}
use Rattle.std.specs.Str.{bytes_eq}
use Rattle.std.specs.FinMap.{find}
use Rattle.channel_store.specs.Memory.{first_file}
use Rattle.channel_store.proofs.FilesLemmas.{find-at}
use Rattle.channel_store.proofs.memory.first_named.Goals as goal

pub returns-then-eq : goal.returns-then-eq
returns-then-eq c =
    let name = c.args.name.now in
    let item = c.loop-known-item.result in
    let same : bytes_eq item.0 name ≡ true = ap (λ k. bytes_eq k name) (sym c.as_str.ensures) ∙ sym c.eq.ensures ∙ c.if-eq.true in
    let at = find-at name c.args.files.now c.loop-known.known-index item c.loop-known-test.true c.loop-known-item.is in
    ap Some c.as_slice.ensures.value
    ∙ sym (c.loop-known.invariant ∙ at ∙ ap (λ b. cond b (Some item.1.items) (find (slice_cmp nat_cmp) name (map first_file (drop (c.loop-known.known-index + 1) c.args.files.now)))) same)

pub loop-known-preserved : goal.loop-known-preserved
loop-known-preserved c =
    let name = c.args.name.now in
    let item = c.loop-known-item.result in
    let other : bytes_eq item.0 name ≡ false = ap (λ k. bytes_eq k name) (sym c.as_str.ensures) ∙ sym c.eq.ensures ∙ c.if-eq.false in
    let at = find-at name c.args.files.now c.loop-known.known-index item c.loop-known-test.true c.loop-known-item.is in
    c.loop-known.invariant ∙ at ∙ ap (λ b. cond b (Some item.1.items) (find (slice_cmp nat_cmp) name (map first_file (drop (c.loop-known.known-index + 1) c.args.files.now)))) other
