use Rattle.std.proofs.Common.{◌≡◌, ◌≤◌, length, take}
use Rattle.shard_file.specs.Writing.{rows_under}
use Rattle.shard_file.proofs.writing.count.Given as goal

abbrev pub invariant-loop-file : goal.invariant-loop-file
invariant-loop-file l = record {
  counted : l.count ≡ length (rows_under l.conda (take l.file-index l.files));
  few : l.count ≤ l.file-index;
}
