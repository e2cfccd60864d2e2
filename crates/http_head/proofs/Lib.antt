mod FramingLemmas
mod HeadLemmas
pub mod ReplyLemmas
mod ServedLemmas
mod UnsettledLemmas
