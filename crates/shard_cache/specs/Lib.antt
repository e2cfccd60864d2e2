pub mod Recency
pub mod Linked
