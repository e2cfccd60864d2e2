use Rattle.std.proofs.Common.{◌∙◌, ap, ℕ, List}
use Rattle.std.specs.List.{list_any}
use Rattle.std.specs.Borrow.{Bor}
use Rattle.mp_codec.proofs.NameSetLemmas.{is_name, has_more}
use Rattle.shard_index.proofs.names.add.Goals as goal

pub returns-clause-more : goal.returns-clause-more
returns-clause-more c = λ q. ap (λ (keys : List (Bor (List ℕ))). list_any (is_name q) keys) c.in_ok-insert.ensures.keys ∙ has_more c.args.names.now.keys c.args.name q
