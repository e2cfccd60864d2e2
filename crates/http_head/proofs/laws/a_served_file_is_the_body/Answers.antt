use Rattle.http_head.proofs.ServedLemmas.{served-has-body}
use Rattle.http_head.proofs.laws.a_served_file_is_the_body.Goals as goal

pub returns : goal.returns
returns c = served-has-body
