pub mod DigestLemmas
pub mod Facts
