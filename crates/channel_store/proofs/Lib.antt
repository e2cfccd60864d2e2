pub mod FilesLemmas
pub mod NameLemmas
