use Rattle.std.proofs.Common.{None, length, sym, ap, ◌∙◌, arith, length-drop, length-take}
use Rattle.std.proofs.Common.{◌∷◌}
use Rattle.conda_version.specs.Cursor.{leaf_len}
use Rattle.conda_version.specs.Seen.{token_len}
use Rattle.conda_version.specs.Token.{tokens_from}
use Rattle.conda_version.proofs.TokenLemmas.{leaf-here, leaf-some, leaf-within}
use Rattle.conda_version.proofs.token.Found.here.Goals as goal

pub returns-in-None-clause-value : goal.returns-in-None-clause-value
returns-in-None-clause-value c =
    (λ i. record { at = c.leaf.ensures.at i; token = c.leaf.ensures.piece i } ∷ tokens_from None (c.leaf.ensures.behind i) (c.leaf.ensures.rest i))
    ∙ sym (leaf-here c.args.text.now c.args.at c.in-len1-up.len_at_least c.requires.begun (sym c.in-None.ensures))

pub returns-in-None-clause-followed : goal.returns-in-None-clause-followed
returns-in-None-clause-followed c =
    let some = leaf-some c.args.text.now c.in-len1-up.len_at_least (sym c.in-None.ensures) in
    let within = leaf-within c.args.text.now in
    let rest = ap length c.leaf.ensures.rest ∙ length-drop (leaf_len c.args.text.now) c.args.text.now in
    record {
      shorter = omega (arith, some, within, rest);
      place = omega (arith, some, within, rest, c.leaf.ensures.behind);
      within = omega (arith, some, c.leaf.ensures.at, c.leaf.ensures.behind);
      leaf = omega (arith, within, c.leaf.ensures.at, ap token_len c.leaf.ensures.piece, length-take (leaf_len c.args.text.now) c.args.text.now);
    }
