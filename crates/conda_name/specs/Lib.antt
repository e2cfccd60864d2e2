pub mod Name
pub mod Dependency
pub use Rattle.gateway_words.specs.Ascii
pub use Rattle.gateway_words.specs.Reading
