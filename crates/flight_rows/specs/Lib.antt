pub mod Sight
pub mod Serves
pub mod Rows
pub mod Changes
pub mod Places
pub use Rattle.flight_journal.specs.State
pub use Rattle.flight_journal.specs.Journal
pub use Rattle.flight_journal.specs.Count
