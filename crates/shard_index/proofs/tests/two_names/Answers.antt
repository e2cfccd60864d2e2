use Rattle.std.proofs.Common.{◌≡◌, sym, ◌∙◌, ap, subst, ◌++◌, List, [], ◌∷◌, ℕ, arith, codes}
use Rattle.std.specs.Ordering.{nat_cmp}
use Rattle.std.specs.Cmp.Lexicographic.{slice_cmp}
use Rattle.std.specs.declared.cmp.Ordering.TheVariants.{Less}
use Rattle.shard_index.specs.Index.{Listed}
use Rattle.shard_index.specs.Writing.{IsShort, IsWritable}
use Rattle.shard_index.proofs.WrittenLemmas.{two_writable}
use Rattle.shard_index.proofs.tests.two_names.Goals as goal

pub write_index-requires : goal.write_index-requires
write_index-requires c =
    let x : Listed = c.in_ok-row.field-0 in
    let y : Listed = c.in_ok-row-2.field-0 in
    let are : c.deref.result.now ≡ x ∷ y ∷ [] =
    c.deref.ensures.value ∙ c.in_ok-push-2.ensures.items ∙ ap (λ (xs : List Listed). xs ++ y ∷ []) (c.in_ok-push.ensures.items ∙ ap (λ (xs : List Listed). xs ++ x ∷ []) c.new-rows.ensures.items) in
    let less : slice_cmp nat_cmp x.name y.name ≡ Less =
    ap (λ (t : List ℕ). slice_cmp nat_cmp t y.name) c.in_ok-row.ensures ∙ ap (λ (t : List ℕ). slice_cmp nat_cmp (codes "a") t) c.in_ok-row-2.ensures in
    subst (λ (xs : List Listed). IsWritable (codes "noarch") xs) (sym are)
    (two_writable (codes "noarch") x y (omega arith) (subst IsShort (sym c.in_ok-row.ensures) (omega arith)) (subst IsShort (sym c.in_ok-row-2.ensures) (omega arith)) less)
