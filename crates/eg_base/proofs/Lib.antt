pub mod AppendLemmas
pub mod NamedFilesLemmas
pub mod PutLemmas
pub mod ResultLemmas
pub mod StreamLemmas
pub mod OpenerLemmas
