-- What a view of a record shows.
use Rattle.conda_record.specs.declared.view.RecordView.{RecordView}
use Rattle.conda_record.specs.declared.view.Shown.{Shown}
use Rattle.conda_record.specs.declared.view.Shown.TheVariants as shown
use Rattle.conda_record.specs.Record.{Fields}
use Rattle.conda_record.specs.Places.{fields_at}

-- the fields of what is looked at
abbrev pub shown_fields : Shown → Fields
shown_fields (shown.Record r) = r.now
shown_fields (shown.Spans r bytes) = fields_at bytes.now r.now

-- the fields of the record that is looked at
unfoldable pub seen : RecordView → Fields
seen view = shown_fields view.shown
