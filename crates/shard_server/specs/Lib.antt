pub mod Answer
pub use Rattle.channel_store.specs.Store
pub use Rattle.channel_store.specs.Names
