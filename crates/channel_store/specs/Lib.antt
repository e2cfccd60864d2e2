pub mod Store
pub mod Memory
pub mod Folder
pub mod Names
pub use Rattle.gateway_words.specs.Causes
pub use Rattle.gateway_words.specs.Limits
