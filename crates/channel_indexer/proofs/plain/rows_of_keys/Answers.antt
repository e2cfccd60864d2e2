use Rattle.std.proofs.Common.{◌≡◌, ◌-◌, length, Some, None, Ok, ap, sym, arith, rules}
use Rattle.serde_json.specs.Data.{no_members}
use Rattle.json.specs.Json.{read_key}
use Rattle.json.proofs.Grammar.{read_key-shorter}
use Rattle.channel_indexer.specs.Plain.{IsNext}
use Rattle.channel_indexer.proofs.PlainLemmas.{with_last, none-passed, passed-on, reads-start, reads-on, reads-over, key-added}
use Rattle.channel_indexer.proofs.plain.rows_of_keys.Goals as goal

pub keys-init : goal.keys-init
keys-init c =
    (length c.args.reader.now, no_members, reads-start 126 c.args.reader.now, none-passed, ap Ok (sym c.new-rows.ensures.items))

pub keys-preserved : goal.keys-preserved
keys-preserved c =
    let l = c.keys in
    let n = l.invariant.0 in
    let done = l.invariant.1 in
    let start = c.args.reader.now in
    let k = c.in-Some.key.now in
    let s = c.next_key.new.reader in
    let r = c.add_rows.new.reader in
    let named : read_key l.reader ≡ Some (Some k, s) = grind arith in
    let next : IsNext l.last k = search rules in
    let read = c.in_ok-add_rows.ensures.rows in (
      n - 1,
      with_last k read.0 done,
      reads-on 126 start n l.reader s r done k read.0 l.invariant.2 (l.invariant.3 k next) named read.1 (read_key-shorter l.reader (Some k) s named) c.in_ok-add_rows.ensures.shorter,
      passed-on l.last c.in-Some.key read.0 done l.invariant.3 next,
      key-added k read.0 done l.rows.items c.add_rows.new.rows.items (l.invariant.3 k next) l.invariant.4 read.2,
    )

pub returns : goal.returns
returns c =
    let l = c.keys in
    let over : read_key l.reader ≡ Some (None, c.next_key.new.reader) = grind arith in
    (l.invariant.1, reads-over 126 c.args.reader.now l.invariant.0 l.reader c.next_key.new.reader l.invariant.1 l.invariant.2 over, l.invariant.4)
