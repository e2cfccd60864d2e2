use Rattle.std.proofs.Common.{◌≡◌, ◌++◌, ◌≤◌, List, ℕ, length, subst, ap, ◌∙◌, arith}
use Rattle.channel_store.specs.Names.{subdir_of}
use Rattle.shard_index.specs.Index.{IndexOf}
use Rattle.shard_index.specs.Writing.{index_bytes, contents_written}
use Rattle.channel_indexer.proofs.shards.index.Goals as goal

pub returns : goal.returns
returns c =
    let rows = c.args.rows.now in
    let same : c.write_index.new.out.items ≡ index_bytes (subdir_of c.args.place.now) rows =
    c.in_ok-write_index.ensures.ok
    ∙ ap (λ (l : List ℕ). l ++ index_bytes c.subdir_of.result.now rows) c.new-bytes.ensures.items
    ∙ ap (λ (s : List ℕ). index_bytes s rows) c.subdir_of.ensures in
    let short : length (index_bytes (subdir_of c.args.place.now) rows) ≤ 33554432 = omega (arith, ap (length {A = ℕ}) same, c.if-len-gt-MOST_SERVED_BYTES.false, c.len.ensures, c.write_index.new.out.ok) in
    record {
      fit = record { few = omega (arith, c.if-rows-ge-MOST_SAID.false); short = short };
      reading = subst (λ (s : List ℕ). IndexOf (index_bytes s rows) (contents_written s rows)) c.subdir_of.ensures c.in_ok-write_index.ensures.read_again;
      put = λ i. record { name = c.in_ok-index_name.ensures.name i; bytes = same i };
    }
