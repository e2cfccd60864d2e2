pub mod Request
pub mod Slots
pub mod Options
pub mod Reading
pub mod Seen
pub use Rattle.gateway_words.specs.Reading as Words
pub use Rattle.match_spec.specs.Parts
pub use Rattle.match_spec.specs.Reading as Specs
