pub mod JudgeLemmas
pub mod LinkLemmas
pub mod RootLemmas
pub mod KeepLemmas
pub mod CommitLemmas
pub mod AdmitLemmas
