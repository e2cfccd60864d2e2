use Rattle.std.proofs.Common.{Some, ap, ◌∙◌}
use Rattle.serde_json.specs.Data.{object}
use Rattle.channel_indexer.specs.Plain.{value_in}
use Rattle.channel_indexer.proofs.PlainLemmas.{object-read}
use Rattle.channel_indexer.proofs.plain.rows_of_file.Goals as goal

pub returns-in-None : goal.returns-in-None
returns-in-None c =
    let top = c.in_ok-rows.ensures in
    let read = object-read 126 c.begin_object.new.reader c.rows_of_keys.new.reader top.0 top.1 in (
      object top.0,
      ap (value_in 127) c.in_ok-begin_object.ensures ∙ read ∙ ap (λ r. Some (object top.0, r)) c.in-None.ensures.value.0,
      top.2,
    )
