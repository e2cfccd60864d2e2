use Rattle.std.proofs.Common.{rules, ◌≡◌, ◌<◌, ℕ, List, sym, ap, subst, ◌∙◌, Some, length}
use Rattle.std.specs.List.{slice_get, slice_index_or}
use Rattle.std.proofs.lemmas.List.{get_or-map, length-map}
use Rattle.shard_file.specs.Rows as shards
use Rattle.shard_file.specs.Rows.{Row}
use Rattle.shard_file.specs.Seen.{row_seen}
use Rattle.closure_plan.specs.Given.{LeafRows}
use Rattle.closure_plan.specs.Closure.{found}
use Rattle.closure_plan.specs.Plan.{Known, Placed, leaf_of, leaves_of}
use Rattle.closure_plan.specs.Rows.{IsThere, leaf_or_none, no_leaf}
use Rattle.closure_plan.proofs.RowLemmas.{leaf_there, row_there}
use Rattle.closure_plan.proofs.answer.Part.row_at.Goals as goal

pub returns : goal.returns
returns g c =
    let items = c.self.inside.leaves.items in
    let place = c.args.place in
    let leaves : List LeafRows = leaves_of g.H.LeafHolder.contents c.args.self.now.leaves in
    let row : Row = row_seen c.in_ok-row.field-0 in
    let same : leaves_of g.H.LeafHolder.contents items ≡ leaves = ap (λ (k : Known _ _). leaves_of g.H.LeafHolder.contents k.leaves) c.self.view_is in
    let low : place.leaf < length items = subst (λ (n : ℕ). place.leaf < n) (length-map items (leaf_of g.H.LeafHolder.contents))
    (leaf_there (leaves_of g.H.LeafHolder.contents items) place (subst (λ (ls : List LeafRows). IsThere ls place) (sym same) c.requires)) in
    let at : c.index-leaf.result.now ≡ slice_index_or items place.leaf c.index-leaf.result.now = search rules in
    let leaf_is : leaf_or_none (leaves_of g.H.LeafHolder.contents items) place.leaf ≡ leaf_of g.H.LeafHolder.contents c.index-leaf.result.now
    = get_or-map (leaf_of g.H.LeafHolder.contents) items place.leaf c.index-leaf.result.now no_leaf low ∙ ap (leaf_of g.H.LeafHolder.contents) (sym at) in
    let rows : c.shard.result.now.rows ≡ (leaf_or_none leaves place.leaf).rows
    = ap (λ (x : shards.Contents). x.rows) (c.shard.ensures ∙ c.leaf-2.ensures ∙ ap (λ (l : Placed _). g.H.LeafHolder.contents l.holder) c.leaf.view_is)
    ∙ sym (ap (λ (l : LeafRows). l.rows) leaf_is) ∙ ap (λ (ls : List LeafRows). (leaf_or_none ls place.leaf).rows) same in
    c.shown.ensures
    ∙ ap (λ (x : Row). Some (found c.args.self.now.request place.slot x))
    (sym (row_there leaves place row (ap (λ (xs : List Row). slice_get xs place.row) (sym rows) ∙ sym c.in_ok-row.ensures)))
