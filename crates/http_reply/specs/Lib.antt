pub mod Request
pub mod Going
pub use Rattle.http_head.specs.Reply
pub use Rattle.http_head.specs.Law
pub use Rattle.http_head.specs.Served
pub use Rattle.gateway_words.specs.Ascii
pub use Rattle.link_io.specs.Address
pub use Rattle.link_io.specs.Parcel
