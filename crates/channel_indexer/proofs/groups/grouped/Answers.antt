use Rattle.std.proofs.Common.{◌≡◌, ℕ, List, ◌++◌, length, ◌∙◌, sym, ap, subst, arith}
use Rattle.channel_indexer.specs.Groups.{is_named, IsNamed}
use Rattle.std.specs.List.{filter, All}
use Rattle.shard_file.specs.Rows.{Row}
use Rattle.channel_indexer.specs.Grouped.{rows_at, IsRun}
use Rattle.channel_indexer.proofs.GroupLemmas.{entries-under, entries-ascend, entries-some, all-on, all-end, entries-named, named-by, run-pushed, run-ended}
use Rattle.std.specs.BTreeMap.{get_by_text}
use Rattle.channel_indexer.proofs.groups.grouped.Goals as goal

pub loop-record-preserved : goal.loop-record-preserved
loop-record-preserved c =
    let way = c.in_ok-make_way.ensures in
    let pushed = c.in_ok-push.ensures.items in
    record {
      each = λ name.
          ap (λ (l : List Row). rows_at c.make_way.new.groups name ++ filter (is_named name) l) pushed
          ∙ run-pushed name (rows_at c.make_way.new.groups name) c.make_way.new.run.items c.loop-record.yielded c.in-Some.record (way.adds.each name ∙ c.loop-record.invariant.each name);
      all = c.loop-record.invariant.all ∙ all-on c.loop-record.yielded _ _ _ c.in-Some.ensures.steps.0;
      left = omega (arith, c.loop-record.invariant.left, c.in-Some.ensures.steps.1, ap (length {A = Row}) c.in-Some.ensures.steps.0);
      ordered = way.adds.ordered;
      some = way.adds.some;
      run = subst IsRun (sym pushed) way.run;
    }

pub returns : goal.returns
returns c =
    let new = c.add_run.new.groups in
    let so_far = c.loop-record.yielded in
    let adds = c.in_ok-add_run.ensures.adds in
    let each : (name : List ℕ) → rows_at new name ≡ filter (is_named name) so_far =
    λ name. run-ended name (rows_at new name) c.add_run.new.run.items (filter (is_named name) so_far) c.in_ok-add_run.ensures.none (adds.each name ∙ c.loop-record.invariant.each name) in
    let all : so_far ≡ c.args.records.items = sym (all-end so_far _ _ c.loop-record.invariant.all (sym c.loop-record.invariant.left ∙ c.in-None.ensures.steps.0)) in
    record {
      ascending = entries-ascend new.entries adds.ordered;
      each = λ name. entries-under name new.entries ∙ each name ∙ ap (λ (rows : List Row). filter (is_named name) rows) all;
      named = entries-named new (λ name found.
          named-by name (get_by_text new name) so_far (each name) (adds.some name) (subst (All IsNamed) (sym all) c.requires) found);
      some = entries-some new adds.ordered adds.some;
    }
