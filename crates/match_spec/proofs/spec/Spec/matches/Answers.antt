use Rattle.conda_record.specs.View.{seen}
use Rattle.match_spec.proofs.MatchLemmas.{matches-means}
use Rattle.match_spec.proofs.spec.Spec.matches.Goals as goal

pub returns-clause-meaning : goal.returns-clause-meaning
returns-clause-meaning c =
    matches-means c.fits.result c.args.self.now (seen c.args.view) c.args.channel.now c.args.subdir.now c.args.file.now c.fits.ensures.legal c.fits.ensures.exact
