use Rattle.std.proofs.Common.{sym, ◌∙◌, ap, subst, List, ℕ, ◌||◌}
use Rattle.std.specs.List.{list_any}
use Rattle.std.specs.Borrow.{Bor}
use Rattle.shard_file.specs.Names.{is_among, IsRising}
use Rattle.shard_file.proofs.NameLemmas.{new_behind, rising_more, more_others}
use Rattle.mp_codec.proofs.NameSetLemmas.{is_name}
use Rattle.shard_file.proofs.names.Names.add.Goals as goal

pub returns-then-is_behind-clause-new : goal.returns-then-is_behind-clause-new
returns-then-is_behind-clause-new c =
    new_behind c.args.self.now.rising.items c.args.self.now.others.keys c.args.name.now c.requires
    (rw c.as_slice.ensures.value at (c.is_behind.ensures c.if-is_behind.true))
    (c.is_empty.ensures.0 c.if-is_empty.true)

pub returns-then-is_behind-clause-rising : goal.returns-then-is_behind-clause-rising
returns-then-is_behind-clause-rising c =
    subst IsRising (sym c.in_ok-push.ensures.items)
    (rising_more c.args.self.now.rising.items c.args.name c.requires (rw c.as_slice.ensures.value at (c.is_behind.ensures c.if-is_behind.true)))

pub returns-clause-more : goal.returns-clause-more
returns-clause-more c = λ q.
    ap (λ (keys : List (Bor (List ℕ))). is_among c.args.self.now.rising.items q || list_any (is_name q) keys) c.in_ok-insert.ensures.keys
    ∙ more_others c.args.self.now.rising.items c.args.self.now.others.keys c.args.name q
