pub mod Format
pub mod Held
pub mod Value
pub mod Writing
pub mod Spelling
pub mod Fault
pub mod Reading
pub mod Maps
pub mod Names
pub mod Keys
pub mod Span
pub mod Room
pub use Rattle.gateway_words.specs.Places
pub use Rattle.gateway_words.specs.Reading as Readings
