pub mod CountLemmas
pub mod ReplyLemmas
