use Rattle.std.proofs.Common.{rules}
use Rattle.std.proofs.lemmas.List.Sorted.{answers_always, All-permutation}
use Rattle.std.proofs.lemmas.Result.{on_ok_weaker}
use Rattle.shard_file.specs.Rows.{file_lt}
use Rattle.channel_indexer.specs.Groups.{IsNamed}
use Rattle.shard_file.proofs.SortLemmas.{file_order}
use Rattle.channel_indexer.proofs.groups.sort.Goals as goal

pub returns-clause-named : goal.returns-clause-named
returns-clause-named c = λ named. All-permutation IsNamed _ _ c.sort_by.ensures.permutation named

pub returns-clause-in_order : goal.returns-clause-in_order
returns-clause-in_order c = on_ok_weaker c.sort_by.result (λ h. record {
  ascending = h file_lt file_order (answers_always _ _ _ (λ f a r f' k. search rules));
  in_order = c.sort_by.ensures.stable file_lt file_order (answers_always _ _ _ (λ f a r f' k. search rules));
  same = c.sort_by.ensures.permutation;
}) c.sort_by.ensures.sorted
