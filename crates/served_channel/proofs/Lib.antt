mod NameLemmas
mod PutLemmas
mod BackLemmas
