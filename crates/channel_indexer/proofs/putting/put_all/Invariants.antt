use Rattle.std.proofs.Common.{◌≡◌, ◌≤◌, take, IfSome, count_by}
use Rattle.channel_indexer.specs.Puts.{with_puts, stands_in, AreApart}
use Rattle.channel_indexer.proofs.putting.put_all.Given as goal

-- the puts in front of the index are made, and those of them are counted that stood at the start
abbrev pub invariant-loop-put : goal.invariant-loop-put
invariant-loop-put g l = record {
  files : g.S.Store.files l.store ≡ with_puts (take l.put-index l.puts) (g.S.Store.files l.initial.store);
  few : l.kept ≤ l.put-index;
  counted : IfSome (g.S.Store.files l.initial.store) (λ told. AreApart l.puts → l.kept ≡ count_by (stands_in told) (take l.put-index l.puts));
  later : g.S.Store.faults l.initial.store ≤ g.S.Store.faults l.store;
}
