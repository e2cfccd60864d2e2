pub mod Places
pub mod Sound
pub mod Events
pub mod Schedules
pub use Rattle.query_future.specs.Queries
pub use Rattle.query_future.specs.Stands
pub use Rattle.flight_table.specs.Tells
pub use Rattle.flight_table.specs.Doors
