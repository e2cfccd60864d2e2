pub mod RunLemmas
pub mod PlaceLemmas
pub mod FileLemmas
pub mod LineLemmas
pub mod EndLemmas
pub mod NameLemmas
pub mod LoopLemmas
pub mod PieceLemmas
