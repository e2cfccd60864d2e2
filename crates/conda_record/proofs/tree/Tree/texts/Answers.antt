use Rattle.std.proofs.Common.{◌≡◌, [], true, is_some, unwrap_or, IfOk, sym, ap, ◌∙◌, subst}
use Rattle.json.specs.Json.{array}
use Rattle.json.specs.Value.{value_view, items_view}
use Rattle.json.proofs.Trees.{view-Array}
use Rattle.serde_json.specs.Read.{of_json}
use Rattle.conda_record.specs.Json.{texts_of}
use Rattle.conda_record.specs.Tree.{data_of, tree_texts}
use Rattle.conda_record.proofs.TreeLemmas.{texts_are}
use Rattle.conda_record.proofs.tree.Tree.texts.Goals as goal

pub returns-in-Array : goal.returns-in-Array
returns-in-Array c =
    let js = items_view c.in-Array.items.items in
    let seen : value_view c.args.self.value.now ≡ array js = ap value_view c.in-Array.is ∙ view-Array c.in-Array.items in
    let in_range : is_some (of_json (array js)) ≡ true = subst (λ j. is_some (of_json j) ≡ true) seen c.args.self.in_range in
    let texts = ap (λ vs. tree_texts (items_view vs)) c.deref.ensures.value ∙ texts_are js in_range ∙ ap (λ j. texts_of (data_of j)) (sym seen) in
    subst (λ ts. IfOk c.copies.result (λ texts. texts.items ≡ unwrap_or ts [])) texts c.copies.ensures
