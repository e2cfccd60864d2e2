use Rattle.served_channel.proofs.BackLemmas.{comes-back}
use Rattle.served_channel.proofs.laws.what_was_indexed_comes_back.Goals as goal

pub returns : goal.returns
returns c = comes-back c.a_served_file_is_the_body.ensures c.groups_have_the_rows.ensures
