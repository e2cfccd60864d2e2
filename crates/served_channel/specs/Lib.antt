pub mod Back
pub use Rattle.channel_indexer.specs.Indexing
pub use Rattle.channel_store.specs.Names
pub use Rattle.channel_store.specs.Store
