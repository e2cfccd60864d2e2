use Rattle.std.specs.Cmp.{tied_itself}
use Rattle.conda_version.proofs.OrderLemmas.{version_total}
use Rattle.conda_version.proofs.laws.order_is_total.Goals as goal

pub returns : goal.returns
returns c = record { total = version_total; reflexive = tied_itself version_total }
