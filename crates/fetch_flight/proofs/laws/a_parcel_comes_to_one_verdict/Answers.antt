use Rattle.fetch_flight.proofs.UniqueLemmas.{one-verdict}
use Rattle.fetch_flight.proofs.laws.a_parcel_comes_to_one_verdict.Goals as goal

pub returns : goal.returns
returns g c = one-verdict
