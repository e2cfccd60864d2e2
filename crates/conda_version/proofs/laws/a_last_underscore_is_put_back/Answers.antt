use Rattle.std.proofs.Common.{refl}
use Rattle.gateway_words.specs.Ascii.{underscore}
use Rattle.conda_version.proofs.FaultLemmas.{components-low, components-plain}
use Rattle.conda_version.proofs.laws.a_last_underscore_is_put_back.Goals as goal

pub returns : goal.returns
returns c = record { plain = components-plain; low = λ t. components-low t underscore refl refl }
