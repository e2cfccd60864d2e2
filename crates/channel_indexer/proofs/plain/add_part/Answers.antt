use Rattle.channel_indexer.proofs.PlainLemmas.{part-read}
use Rattle.channel_indexer.proofs.plain.add_part.Goals as goal

pub returns-clause-rows : goal.returns-clause-rows
returns-clause-rows c = part-read 125 c.args.reader.now c.begin_object.new.reader c.add_files.new.reader c.args.conda c.args.rows.now.items c.add_files.new.rows.items c.add_files.result c.in_ok-begin_object.ensures c.add_files.ensures.rows
