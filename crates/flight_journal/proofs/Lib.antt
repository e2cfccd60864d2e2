pub mod ListLemmas
pub mod PushLemmas
pub mod CarryLemmas
pub mod LegalLemmas
pub mod CountLemmas
pub mod WreckLemmas
pub mod FetchLemmas
pub mod LossLemmas
