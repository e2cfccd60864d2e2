use Rattle.std.proofs.Common.{◌≡◌, ◌-◌, length, Some, None, Ok, ap, sym, ◌∙◌, append-nil, arith, rules}
use Rattle.serde_json.specs.Data.{no_members}
use Rattle.json.specs.Json.{read_key}
use Rattle.json.proofs.Grammar.{read_key-shorter}
use Rattle.channel_indexer.specs.Plain.{IsNext}
use Rattle.channel_indexer.proofs.PlainLemmas.{with_last, none-passed, passed-on, reads-start, reads-on, reads-over, file-added}
use Rattle.channel_indexer.proofs.plain.add_files.Goals as goal

pub files-init : goal.files-init
files-init c = (length c.args.reader.now, no_members, reads-start 125 c.args.reader.now, none-passed, ap Ok (append-nil c.args.rows.now.items))

pub files-preserved : goal.files-preserved
files-preserved c =
    let l = c.files in
    let n = l.invariant.0 in
    let done = l.invariant.1 in
    let start = c.args.reader.now in
    let k = c.in-Some.file.now in
    let s = c.next_key.new.reader in
    let r = c.read_row.new.reader in
    let named : read_key l.reader ≡ Some (Some k, s) = grind arith in
    let next : IsNext l.last k = search rules in
    let read = c.in_ok-read_row.ensures.row in
    let row = c.in_ok-read_row.field-0 in (
      n - 1,
      with_last k read.0 done,
      reads-on 125 start n l.reader s r done k read.0 l.invariant.2 (l.invariant.3 k next) named read.1 (read_key-shorter l.reader (Some k) s named) c.in_ok-read_row.ensures.shorter,
      passed-on l.last c.in-Some.file read.0 done l.invariant.3 next,
      file-added c.args.conda k read.0 done c.args.rows.now.items l.rows.items row l.invariant.4 read.2 ∙ ap Ok (sym c.in_ok-push.ensures.items),
    )

pub returns-clause-rows : goal.returns-clause-rows
returns-clause-rows c =
    let l = c.files in
    let over : read_key l.reader ≡ Some (None, c.next_key.new.reader) = grind arith in
    (l.invariant.1, reads-over 125 c.args.reader.now l.invariant.0 l.reader c.next_key.new.reader l.invariant.1 l.invariant.2 over, l.invariant.4)
