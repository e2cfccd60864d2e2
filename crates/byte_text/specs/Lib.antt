pub mod Text
pub mod Decimal
pub use Rattle.gateway_words.specs.Ascii
