use Rattle.std.proofs.Common.{suc, length, refl, arith}
use Rattle.match_spec.proofs.bracket.open_quote.Goals as goal

pub parts-init : goal.parts-init
parts-init c = (suc (length c.args.inside.text.now), omega arith, refl)
