pub mod KeyLemmas
pub mod PinLemmas
pub mod FitLemmas
