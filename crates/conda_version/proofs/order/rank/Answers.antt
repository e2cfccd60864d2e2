use Rattle.std.proofs.Common.{rules, sym}
use Rattle.conda_version.proofs.CursorLemmas.{rank-dev, rank-post}
use Rattle.conda_version.proofs.order.rank.Goals as goal

pub returns-then-is_folded : goal.returns-then-is_folded
returns-then-is_folded c = sym (rank-dev c.args.word.now (search rules) (search rules))

pub returns-then-is_folded-2 : goal.returns-then-is_folded-2
returns-then-is_folded-2 c = let h = c.if-is_folded in let h2 = c.if-is_empty in let h3 = c.if-is_folded-2 in sym (rank-post c.args.word.now (search rules) (search rules) (search rules))
