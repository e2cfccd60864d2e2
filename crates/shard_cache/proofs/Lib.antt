pub mod OrderLemmas
mod LinkLemmas
mod CountLemmas
