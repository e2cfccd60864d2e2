use Rattle.std.proofs.Common.{sym, ◌∙◌, ap, List, ℕ, length, drop}
use Rattle.std.specs.declared.cmp.Ordering.{Ordering}
use Rattle.std.specs.Ordering.{nat_cmp, ordering_then}
use Rattle.std.specs.Cmp.Lexicographic.{slice_cmp}
use Rattle.shard_file.specs.Twin.{newer_ending}
use Rattle.shard_file.proofs.TwinLemmas.{cmp_joined}
use Rattle.shard_file.proofs.twin.compare_long.Goals as goal

pub returns-in-Equal : goal.returns-in-Equal
returns-in-Equal c =
    let file : List ℕ = c.args.file.now in
    let stem : List ℕ = c.args.stem.now in
    let rest : Ordering = slice_cmp nat_cmp (drop (length stem) file) newer_ending in
    let front = sym c.in-Equal.is ∙ c.cmp.ensures ∙ ap (λ (xs : List ℕ). slice_cmp nat_cmp xs stem) c.split_at.ensures.front in
    c.cmp-in-Equal.ensures ∙ ap (λ (xs : List ℕ). slice_cmp nat_cmp c.split_at.result.1.now xs) c.as_slice.ensures
    ∙ ap (λ (xs : List ℕ). slice_cmp nat_cmp xs newer_ending) c.split_at.ensures.back
    ∙ ap (λ (o : Ordering). ordering_then o rest) front ∙ sym (cmp_joined file stem newer_ending c.requires)

pub returns-in-Less : goal.returns-in-Less
returns-in-Less c =
    let file : List ℕ = c.args.file.now in
    let stem : List ℕ = c.args.stem.now in
    let rest : Ordering = slice_cmp nat_cmp (drop (length stem) file) newer_ending in
    let front = sym c.in-Less.is ∙ c.cmp.ensures ∙ ap (λ (xs : List ℕ). slice_cmp nat_cmp xs stem) c.split_at.ensures.front in
    ap (λ (o : Ordering). ordering_then o rest) front ∙ sym (cmp_joined file stem newer_ending c.requires)

pub returns-in-Greater : goal.returns-in-Greater
returns-in-Greater c =
    let file : List ℕ = c.args.file.now in
    let stem : List ℕ = c.args.stem.now in
    let rest : Ordering = slice_cmp nat_cmp (drop (length stem) file) newer_ending in
    let front = sym c.in-Greater.is ∙ c.cmp.ensures ∙ ap (λ (xs : List ℕ). slice_cmp nat_cmp xs stem) c.split_at.ensures.front in
    ap (λ (o : Ordering). ordering_then o rest) front ∙ sym (cmp_joined file stem newer_ending c.requires)
