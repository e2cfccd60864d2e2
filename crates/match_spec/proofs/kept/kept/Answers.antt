use Rattle.std.proofs.Common.{rules, ◌≡◌, ◌+◌, ◌∙◌}
use Rattle.std.specs.Prelude.{IfSome}
use Rattle.match_spec.specs.Kept.{blanks_stay, stays}
use Rattle.match_spec.proofs.KeptLemmas.{known-behind, none-stays, one-stays, stays-by}
use Rattle.match_spec.proofs.kept.kept.Goals as goal
use Rattle.match_spec.proofs.kept.kept.Goals.{then-unwrap_or+in_ok-push, else-unwrap_or}

pub bytes-preserved : goal.bytes-preserved
bytes-preserved c =
    let text = c.args.text.now in
    let known : IfSome c.blank_at-blank.result (λ stay. stay ≡ blanks_stay text (c.bytes.at + 1)) = known-behind text c.bytes.at c.blank_at-blank.result c.blank_at-blank.ensures in
    let here : c.unwrap_or.result ≡ stays text c.bytes.at = c.unwrap_or.ensures ∙ stays-by text c.bytes.at c.blank_at-blank.result c.blank_at-blank.ensures in
    elim c.if-unwrap_or.branch [
      | then-unwrap_or+in_ok-push w ↦ record { same = search (rules, here, one-stays text c.bytes.at c.bytes.rest.now c.bytes.kept.items); whole = grind rules; known = known }
      | else-unwrap_or w ↦ record { same = search (rules, here, none-stays text c.bytes.at c.bytes.rest.now c.bytes.kept.items); whole = grind rules; known = known }
    ]
