pub mod ZipLemmas
pub mod ObligationLemmas
pub mod AddLemmas
pub mod RiseLemmas
pub mod LawfulLemmas
pub mod TestLemmas
pub mod LogLemmas
pub mod OneLemmas
