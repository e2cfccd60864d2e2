use Rattle.std.proofs.lemmas.Str.{is_utf8-from_IsUtf8}
use Rattle.mp_codec.proofs.AppendLemmas.{on_ok}
use Rattle.shard_index.proofs.WrittenLemmas.{read_again}
use Rattle.shard_index.proofs.writing.write_index.Goals as goal

pub returns-clause-read_again : goal.returns-clause-read_again
returns-clause-read_again c =
    rw c.cut_back.ensures.same (on_ok c.put_index-outcome.result (read_again c.args.subdir.now c.args.rows.now c.requires (is_utf8-from_IsUtf8 c.args.subdir.now c.utf8.subdir)) c.put_index-outcome.ensures.entries)
