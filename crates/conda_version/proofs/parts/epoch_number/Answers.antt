use Rattle.std.proofs.Common.{[], ◌∷◌, sym, ◌∙◌, ap}
use Rattle.conda_version.specs.Version.{number}
use Rattle.conda_version.proofs.VersionLemmas.{digits-epoch}
use Rattle.conda_version.proofs.parts.epoch_number.Goals as goal

pub returns-in-Some : goal.returns-in-Some
returns-in-Some c =
    rw c.in-Some.is (digits-epoch c.in-Some.part.now (rw c.in-Some.is at c.requires.digits) ∙ ap (λ n. number n ∷ []) (sym c.number.ensures.value))
