use Rattle.std.proofs.Common.{rules}
use Rattle.json.specs.Value.{value_view}
use Rattle.channel_indexer.proofs.PlainLemmas.{value-there}
use Rattle.channel_indexer.proofs.plain.pass_value.Goals as goal

pub returns-then-is_data-clause-value : goal.returns-then-is_data-clause-value
returns-then-is_data-clause-value c =
    value-there 126 c.args.reader.now c.read_value.new.reader (value_view c.in_ok-value.value) c.in_ok-value.ensures.value (search rules)
