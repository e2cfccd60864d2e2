use Rattle.std.proofs.Common.{◌≡◌}
use Rattle.serde_json.specs.View.{members_view}
use Rattle.channel_indexer.specs.Input.{rows_of}
use Rattle.channel_indexer.specs.Seen.{behind}
use Rattle.channel_indexer.proofs.input.add_records_of_files.Given as goal

-- the rows of all files are those so far and those of the files that are left
abbrev pub invariant-loop-file : goal.invariant-loop-file
invariant-loop-file l = behind l.initial.records.items (rows_of l.conda (members_view l.files.entries)) ≡ behind l.records.items (rows_of l.conda (members_view l.file-iterator))
