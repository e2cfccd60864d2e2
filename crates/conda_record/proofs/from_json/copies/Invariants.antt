use Rattle.std.proofs.Common.{◌≡◌, ◌++◌, drop, option_map}
use Rattle.serde_json.specs.View.{items_view}
use Rattle.conda_record.specs.Json.{texts_in}
use Rattle.conda_record.proofs.from_json.copies.Given as goal

-- the texts of all elements are those so far and those of the elements that are left
abbrev pub invariant-loop-item : goal.invariant-loop-item
invariant-loop-item l = texts_in (items_view l.items) ≡ option_map (λ rest. l.texts.items ++ rest) (texts_in (items_view (drop l.item-index l.items)))
