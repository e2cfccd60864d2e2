pub mod Serving
pub mod Reply
pub use Rattle.shard_server.specs.Answer
