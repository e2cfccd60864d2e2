-- What contracts see of a journal.
use Rattle.std.specs.Prelude.{ℕ, List}
use Rattle.flight_journal.specs.declared.entry.Entry.{Entry}

-- the entries that were written, in order, and for how many there is memory
pub record Written : Type 0 where
  pub entries : List Entry
  pub room : ℕ
