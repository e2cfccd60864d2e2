use Rattle.std.proofs.Common.{◌≡◌, ◌+◌, ◌∷◌, ◌&&◌, drop, Bool, true, is_some, sym, ap, ◌∙◌, arith}
use Rattle.std.proofs.lemmas.List.{drop_more}
use Rattle.json.specs.Value.{value_view, members_view}
use Rattle.serde_json.specs.Data.{no_members}
use Rattle.serde_json.specs.Read.{of_json, of_members}
use Rattle.conda_record.proofs.DataLemmas.{member_is_data}
use Rattle.conda_record.proofs.data.+is_data.Goals as goal

pub are_members-loop-member-preserved : goal.are_members-loop-member-preserved
are_members-loop-member-preserved t c =
    let l = c.loop-member in
    let xs = c.deref-member-items.result.now in
    let x = c.member-item.result in
    let rest = drop (l.member-index + 1) xs in
    let here : drop l.member-index xs ≡ x ∷ rest = drop_more xs l.member-index x (omega arith) ∙ ap (λ y. y ∷ rest) (sym c.member-item.is) in
    let yes : is_some (of_json (value_view x.1)) ≡ true = grind arith in
    l.invariant ∙ ap (λ ys. is_some (of_members (members_view ys) no_members)) here
    ∙ member_is_data x.0.now (value_view x.1) (members_view rest)
    ∙ ap (λ (b : Bool). b && is_some (of_members (members_view rest) no_members)) yes
