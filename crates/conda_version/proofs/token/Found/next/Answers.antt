use Rattle.std.proofs.Common.{◌+◌, ◌-◌, ℕ, None, length, ap, ◌∙◌, arith}
use Rattle.conda_version.specs.Token.{tokens_from}
use Rattle.conda_version.proofs.TokenLemmas.{tokens-blanks}
use Rattle.conda_version.proofs.token.Found.next.Goals as goal

pub returns-clause-value : goal.returns-clause-value
returns-clause-value c =
    let from : ℕ = c.args.at + (length c.args.text.now - length c.skip_blanks-front.result.now) in
    let same = ap length c.skip_blanks-front.ensures.value in
    c.here.ensures.value ∙ ap (tokens_from None from) c.skip_blanks-front.ensures.value
    ∙ tokens-blanks c.args.text.now c.args.at from (omega (arith, same, c.skip_blanks-front.ensures.within))
