use Rattle.std.proofs.Common.{◌≡◌, ◌++◌, drop, option_map}
use Rattle.json.specs.Value.{items_view}
use Rattle.conda_record.specs.Tree.{tree_texts}
use Rattle.conda_record.proofs.tree.copies.Given as goal

-- the texts of all elements are those so far and those of the elements that are left
abbrev pub invariant-loop-item : goal.invariant-loop-item
invariant-loop-item l = tree_texts (items_view l.items) ≡ option_map (λ rest. l.texts.items ++ rest) (tree_texts (items_view (drop l.item-index l.items)))
