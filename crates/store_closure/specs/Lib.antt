pub mod Places
pub mod Files
pub mod Runs
pub mod Stops
pub mod Seen
pub mod Asked
pub mod Pieces
pub mod Options
pub mod Lines
pub mod Puts
pub mod Laws
pub use Rattle.closure_plan.specs.Closure
pub use Rattle.closure_plan.specs.Needs
pub use Rattle.closure_request.specs.Slots
pub use Rattle.channel_store.specs.Store
pub use Rattle.shard_file.specs.Reading as Shards
pub use Rattle.shard_index.specs.Reading as Indexes
