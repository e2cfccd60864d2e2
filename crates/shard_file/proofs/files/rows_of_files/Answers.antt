use Rattle.std.proofs.Common.{◌≡◌, sym, ◌∙◌, ap, subst, ℕ, ◌+◌, ◌-◌, List, [], ◌∷◌, ◌++◌}
use Rattle.std.proofs.lemmas.List.{map-append}
use Rattle.std.specs.Prelude.{Ok, Err}
use Rattle.std.proofs.lemmas.Result.{err_from_is_err_and}
use Rattle.mp_codec.specs.declared.fault.FormatFault.{FormatFault}
use Rattle.mp_codec.specs.Maps.{text_from}
use Rattle.gateway_words.specs.Places.{Position}
use Rattle.mp_codec.specs.Span.{IsIn, raw_at, text_at}
use Rattle.mp_codec.specs.declared.span.Span.{Span}
use Rattle.mp_codec.proofs.SpanLemmas.{text_in, text_spans}
use Rattle.conda_record.proofs.PlacesLemmas.{record_at_places, fault_at_places, places_stay}
use Rattle.conda_record.specs.Record.{Fields}
use Rattle.conda_record.specs.Places.{fields_at}
use Rattle.conda_record.proofs.RefusalLemmas.{fault_along}
use Rattle.shard_file.specs.Rows.{Row}
use Rattle.shard_file.specs.Names.{has_name}
use Rattle.shard_file.specs.Reading.{has_file, files_after}
use Rattle.shard_file.specs.Spans.{row_at, rows_at, AreNamed}
use Rattle.shard_file.proofs.SpanLemmas.{name_text, named_more}
use Rattle.shard_file.proofs.FileLoop.{name_read, file_row, file_goes_on, name_stops, record_stops, files_done, has_file_more}
use Rattle.shard_file.proofs.files.rows_of_files.Goals as goal

pub returns-in_err-file-clause-exact : goal.returns-in_err-file-clause-exact
returns-in_err-file-clause-exact g c =
    let p = err_from_is_err_and c.from_residual-in_err-file.result c.from_residual-in_err-file.ensures.1 in
    rw (p.1, p.2) (fault_along c.in_err-file.field-0.0 _ (λ (f : FormatFault). files_after c.args.conda c.args.files [] c.args.cur.now ≡ Err f)
    (λ f e. sym c.loop.invariant.0 ∙ name_stops c.args.conda (has_name c.loop.names) (rows_at g.bytes c.loop.rows.items) c.loop.invariant.1 c.args.files c.loop.counter f c.loop.cur c.loop-test.true e)
    c.in_err-file.ensures.exact)

pub returns-in_err-value-clause-exact : goal.returns-in_err-value-clause-exact
returns-in_err-value-clause-exact g c =
    let p = err_from_is_err_and c.from_residual-in_err-value.result c.from_residual-in_err-value.ensures.1 in
    rw (p.1, p.2) (fault_along c.in_err-value.field-0.0 _ (λ (f : FormatFault). files_after c.args.conda c.args.files [] c.args.cur.now ≡ Err f)
    (λ f e. sym c.loop.invariant.0 ∙ record_stops c.args.conda (has_name c.loop.names) (rows_at g.bytes c.loop.rows.items) c.loop.invariant.1 c.args.files c.loop.counter c.in_ok-file.field-0-0.now f c.loop.cur c.new_name.new.cur c.loop-test.true c.in_ok-file.ensures.exact (fault_at_places c.new_name.new.cur f e))
    c.in_err-value.ensures.exact)

pub loop-preserved : goal.loop-preserved
loop-preserved g c =
    let before : List Row = rows_at g.bytes c.loop.rows.items in
    let name : List ℕ = c.in_ok-file.field-0-0.now in
    let mid : Position = c.new_name.new.cur in
    let fields : Fields = fields_at g.bytes c.in_ok-value.value in
    let row : Row = file_row c.args.conda name fields in
    let read : text_from c.loop.cur ≡ Ok (name, mid) = name_read (has_name c.loop.names) c.loop.cur mid name c.in_ok-file.ensures.exact in
    let within : IsIn g.bytes mid = text_in g.bytes name c.loop.cur mid c.loop.invariant.3 read in
    let file : text_at g.bytes c.in_ok-file.file ≡ name = ap (text_at g.bytes) c.in_ok-file.ensures.place ∙ text_spans g.bytes name c.loop.cur mid c.loop.invariant.3 read in
    let pushed : rows_at g.bytes c.push.new.self.items ≡ before ++ row ∷ [] =
    ap (rows_at g.bytes) c.in_ok-push.ensures.items ∙ map-append (row_at g.bytes) c.loop.rows.items _
    ∙ ap (λ (file : List ℕ). before ++ file_row c.args.conda file fields ∷ []) file in (
      ap (λ (rows : List Row). files_after c.args.conda (c.args.files - (c.loop.counter + 1)) rows c.read.new.cur) pushed
          ∙ sym (file_goes_on c.args.conda (has_name c.loop.names) before c.loop.invariant.1 c.args.files c.loop.counter name fields c.loop.cur mid c.read.new.cur
          c.loop-test.true c.in_ok-file.ensures.exact (record_at_places g.bytes mid c.read.new.cur c.in_ok-value.value within c.in_ok-value.ensures.exact))
          ∙ c.loop.invariant.0,
      (λ q. c.in_ok-file.ensures.more q ∙ has_file_more before row (has_name c.loop.names q) q (c.loop.invariant.1 q) ∙ ap (λ (rows : List Row). has_file q rows) (sym pushed)),
      c.in_ok-file.ensures.rising,
      places_stay g.bytes mid c.read.new.cur c.in_ok-value.value within c.in_ok-value.ensures.exact,
      subst (AreNamed g.bytes) (sym c.in_ok-push.ensures.items) (named_more g.bytes c.loop.rows.items _ c.loop.invariant.4
          (ap (λ (s : Span). raw_at g.bytes s) c.in_ok-file.ensures.place ∙ name_text g.bytes name c.loop.cur mid c.loop.invariant.3 read ∙ ap (text_at g.bytes) (sym c.in_ok-file.ensures.place))),
    )

pub returns-clause-exact : goal.returns-clause-exact
returns-clause-exact g c = sym c.loop.invariant.0 ∙ files_done c.args.conda c.args.files c.loop.counter (rows_at g.bytes c.loop.rows.items) c.loop.cur c.loop-test.false
