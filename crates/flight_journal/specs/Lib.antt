pub mod State
pub mod Journal
pub mod Written
pub mod Count
pub mod Others
pub mod Worked
pub use Rattle.shard_cache.specs.Recency
pub use Rattle.link_io.specs.Target
