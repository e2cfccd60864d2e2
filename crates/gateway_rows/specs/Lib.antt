pub mod Bytes
pub use Rattle.gateway_tool.specs.Show
pub use Rattle.gateway_tool.specs.Status
pub use Rattle.gateway_tool.specs.Words
pub use Rattle.hex.specs.Hex
pub use Rattle.link_io.specs.Memory
pub use Rattle.link_io.specs.Transfer
