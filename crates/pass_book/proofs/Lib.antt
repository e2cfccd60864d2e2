pub mod LineLemmas
mod StepLemmas
