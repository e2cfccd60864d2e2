use Rattle.std.proofs.Common.{length, ◌<◌, ◌^◌, append-nil, ◌≡◌, List, ◌++◌, ◌∷◌, [], map, subst, ap, sym, ◌∙◌, rules}
use Rattle.std.proofs.lemmas.Map.Iter.{rest_more}
use Rattle.conda_name.specs.Name.{IsName}
use Rattle.channel_indexer.specs.Groups.{Group}
use Rattle.channel_indexer.specs.Grouped.{group_of}
use Rattle.channel_indexer.proofs.ShardLemmas.{in-middle, push-all, map-push, listed-names, listed-short}
use Rattle.std.specs.Ordering.{nat_cmp}
use Rattle.std.specs.Cmp.Lexicographic.{slice_cmp}
use Rattle.std.specs.List.{All}
use Rattle.std.specs.List.Sorted.{IsStrictlySortedBy}
use Rattle.shard_index.specs.Index.{Listed}
use Rattle.channel_indexer.specs.Shards.{shard_put, listed_of, IsFit}
use Rattle.channel_indexer.specs.Prepared.{IsMade}
use Rattle.std.specs.declared.alloc.Global.{Global}
use Rattle.std.specs.declared.string.String.{String}
use Rattle.std.specs.declared.vec.Vec.{Vec}
use Rattle.shard_file.specs.Rows.{Row, ShardOf}
use Rattle.shard_file.specs.Writing.{shard_bytes}
use Rattle.channel_indexer.proofs.GroupLemmas.{Entries, all-on}
use Rattle.channel_indexer.proofs.shards.prepare.Goals as goal

pub shard-requires-clause-name : goal.shard-requires-clause-name
shard-requires-clause-name c =
    let next = rest_more (λ x. x) c.loop-name.name-iterator c.next.new.self c.next.result (c.in-Some.name, c.in-Some.records) c.in-Some.is c.next.ensures.steps in
    subst IsName (sym c.as_str.ensures.value)
    (in-middle IsName (λ (g : Group). g.name) group_of c.args.groups.entries c.loop-name.yielded c.loop-name.name-iterator c.next.new.self (c.in-Some.name, c.in-Some.records) c.loop-name.invariant.all next c.requires.named)

pub loop-name-preserved : goal.loop-name-preserved
loop-name-preserved c =
    let place = c.args.place.now in
    let entry : String Global × Vec Row Global = (c.in-Some.name, c.in-Some.records) in
    let next = rest_more (λ x. x) c.loop-name.name-iterator c.next.new.self c.next.result entry c.in-Some.is c.next.ensures.steps in
    let group : ◌≡◌ {A = Group} (record { name = c.as_str.result.now; rows = c.deref.result.now }) (group_of entry) =
    λ i. record { name = c.as_str.ensures.value i; rows = c.deref.ensures.value i } in
    let made = subst (λ (g : Group). IsMade place g c.in_ok-put.field-0) group c.in_ok-put.ensures in
    let pushed : c.push.new.self.items ≡ c.loop-name.shards.items ++ c.in_ok-put.field-0.put ∷ [] = search rules in
    let listed : c.push-in-loop-name.new.self.items ≡ c.loop-name.rows.items ++ c.in_ok-put.field-0.row ∷ [] = search rules in
    record {
      fit = push-all IsFit group_of c.loop-name.yielded entry c.loop-name.invariant.fit made.fit;
      readings = push-all (λ (g : Group). ShardOf (shard_bytes g.rows) g.rows) group_of c.loop-name.yielded entry c.loop-name.invariant.readings made.reading;
      shards = pushed ∙ (λ i. c.loop-name.invariant.shards i ++ made.put i ∷ []) ∙ sym (map-push (shard_put place) group_of c.loop-name.yielded entry);
      rows = listed ∙ (λ i. c.loop-name.invariant.rows i ++ made.row i ∷ []) ∙ sym (map-push listed_of group_of c.loop-name.yielded entry);
      all = c.loop-name.invariant.all ∙ all-on c.loop-name.yielded c.loop-name.name-iterator c.next.new.self entry next;
    }

pub index-requires-clause-ascending : goal.index-requires-clause-ascending
index-requires-clause-ascending c =
    let whole : c.args.groups.entries ≡ c.loop-name.yielded = c.loop-name.invariant.all ∙ ap (λ (l : Entries). c.loop-name.yielded ++ l) c.in-None.ensures.steps.0 ∙ append-nil c.loop-name.yielded in
    let rows = c.deref-2.ensures.value ∙ c.loop-name.invariant.rows in
    let names = ap (λ (l : List Listed). map (λ (x : Listed). x.name) l) rows ∙ listed-names (map group_of c.loop-name.yielded)
    ∙ ap (λ (l : Entries). map (λ (g : Group). g.name) (map group_of l)) (sym whole) in
    subst (IsStrictlySortedBy (slice_cmp nat_cmp)) (sym names) c.requires.ascending

pub index-requires-clause-short : goal.index-requires-clause-short
index-requires-clause-short c =
    let rows = c.deref-2.ensures.value ∙ c.loop-name.invariant.rows in
    subst (All (λ (x : Listed). length x.name < 2 ^ 32)) (sym rows) (listed-short (map group_of c.loop-name.yielded) c.loop-name.invariant.fit)
