use Rattle.std.proofs.Common.{◌≡◌, List, ◌++◌, Ok, ap, sym, ◌∙◌}
use Rattle.std.specs.Map.Iter.{deref_pair}
use Rattle.std.specs.declared.alloc.Global.{Global}
use Rattle.std.specs.declared.string.String.{String}
use Rattle.std.specs.String.{string_bytes}
use Rattle.std.proofs.lemmas.Map.Iter.{rest_more}
use Rattle.gateway_words.specs.Reading.{◌>>=◌}
use Rattle.serde_json.specs.declared.value.Value.{Value}
use Rattle.serde_json.specs.View.{view, members_view}
use Rattle.shard_file.specs.Rows.{Row}
use Rattle.channel_indexer.specs.Input.{rows_of, row_of}
use Rattle.channel_indexer.proofs.InputLemmas.{rows-on}
use Rattle.channel_indexer.proofs.input.add_records_of_files.Goals as goal

pub loop-file-preserved : goal.loop-file-preserved
loop-file-preserved c =
    let conda = c.args.conda in
    let so_far = c.loop-file.records.items in
    let left = rest_more deref_pair c.loop-file.file-iterator c.next.new.self c.next.result (c.in-Some.file, c.in-Some.value) c.in-Some.is c.next.ensures.steps in
    let row : row_of conda (string_bytes c.in-Some.file.now) (view c.in-Some.value.now) ≡ Ok c.in_ok-record.field-0 =
    ap (λ (file : List _). row_of conda file (view c.in-Some.value.now)) (sym c.as_str.ensures.value) ∙ c.in_ok-record.ensures in
    c.loop-file.invariant
    ∙ ap (λ (t : List (String Global × Value)). rows_of conda (members_view t) >>= λ rs. Ok (so_far ++ rs)) left
    ∙ rows-on conda (string_bytes c.in-Some.file.now) (view c.in-Some.value.now) (members_view c.next.new.self) so_far c.in_ok-record.field-0 row
    ∙ ap (λ (l : List Row). rows_of conda (members_view c.next.new.self) >>= λ rs. Ok (l ++ rs)) (sym c.in_ok-push.ensures.items)
