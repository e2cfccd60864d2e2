pub mod SoundLemmas
pub mod StartLemmas
pub mod ScheduleLemmas
