pub mod Addresses
pub mod Law
pub use Rattle.url.specs.Parser
pub use Rattle.url.specs.Parts
pub use Rattle.link_io.specs.Address
pub use Rattle.digest_gate.specs.Digest
