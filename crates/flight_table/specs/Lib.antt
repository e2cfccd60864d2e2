pub mod Facts
pub mod Knows
pub mod Tells
pub mod Doors
pub mod Lines
pub mod Follows
pub mod Saying
pub mod Worked
pub use Rattle.flight_rows.specs.Sight
pub use Rattle.flight_rows.specs.Serves
pub use Rattle.pass_book.specs.Lines as BookLines
