use Rattle.std.proofs.Common.{◌∙◌}
use Rattle.store_closure.proofs.PlaceLemmas.{placed}
use Rattle.store_closure.proofs.places.place_text.Goals as goal

pub returns-clause-place : goal.returns-clause-place
returns-clause-place c =
    placed c.joined-2.result c.as_str.result.now c.args.channel.now c.args.subdir.now (c.as_str.ensures ∙ c.in_ok-front.ensures) c.requires.channel c.requires.subdir c.joined-2.ensures
